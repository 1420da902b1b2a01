-- A step along a way that begins no turn goes on.
use Rattle.teco_law_tables.proofs.Prelude.{◌≡◌, ℕ, zero, suc, ◌+◌, ◌-◌, ◌≤◌, ◌<◌, refl, sym, ap, ◌∙◌, subst, arith}
use Rattle.teco_law_tables.proofs.Prelude.{List, [], ◌∷◌, ◌++◌, map, take, drop, length, nat_lt, ◌==◌, Bool, true}
use Rattle.teco_law_tables.proofs.Prelude.{false, ◌||◌, if◌then◌else◌, pos, Option, Some, None, Ok, is_some, slice_get}
use Rattle.teco_law_tables.proofs.Prelude.{IsTrue, AllByRecursion, option_map_or, ltb-true, Forward, FallFollows}
use Rattle.teco_law_tables.proofs.Prelude.{still_open, Flow, Kind, Element, Pair, World, Frames, State, end_of}
use Rattle.teco_law_tables.proofs.Prelude.{AreClosed, LeftHaveEnded, IterationsAreOpen, LeadsBy, place_at, WaysLead}
use Rattle.teco_law_tables.proofs.Prelude.{Stand, Node, over, stands, numbered, stand_at, Position, position_of}
use Rattle.teco_law_tables.proofs.Prelude.{values_compare, value, and_both, covers_are_sound, covers, Run, run_behind}
use Rattle.teco_law_tables.proofs.Prelude.{Describes, Facts, Edges, unread_of, left_by, edges_at, along, turns_by_flow}
use Rattle.teco_law_tables.proofs.Prelude.{turns_by_kind, begins_turn, arrives, is_known_in, closed_behind}
use Rattle.teco_law_tables.proofs.Prelude.{closed_where, check_nodes, OpenTurn, run_at, loops_in, open_loops, AreOpened}
use Rattle.teco_law_tables.proofs.Prelude.{held_of, loops_of, shown, left_by_flow, left_by_kind, left_along}
use Rattle.teco_law_tables.proofs.Prelude.{run_by_flow, run_by_kind, run_along, IsLast, Alone, Again, MovesOn, Table}
use Rattle.teco_law_tables.proofs.Prelude.{facts_at, is_reached, held_at, turning, number_within}
use Rattle.teco_verifier.specs.expansion.Node.{stand_of_node}
use Rattle.std.proofs.Common.{get_or}
use Rattle.teco_law_turns.specs.Moves.{Goes}
use Rattle.teco_model.specs.declared.kind.Flow.TheVariants as flow
use Rattle.teco_model.specs.declared.kind.Kind.TheVariants as kind
use Rattle.teco_law_runs.specs.Iterations.{AreOpen}
use Rattle.teco_verifier.specs.table.Behind.{open_of, open_at}
use Rattle.teco_verifier.specs.table.Closed.{is_return, is_covered, arrive}
use Rattle.teco_law_tables.proofs.Ground.{Ground, Passage}
use Rattle.teco_law_tables.proofs.Closing.{held_covered, held_known}
use Rattle.teco_law_tables.proofs.Leaving.{step_loops}
use Rattle.teco_law_runs.proofs.Lookup.{stand_of}
use Rattle.teco_law_tables.proofs.Passing.{Ahead, ahead, loops_length, opened_length, opened_dropped, begun_dropped}
use Rattle.teco_law_tables.proofs.Passing.{numbers_still, loops_still, no_falls, descend_dropped}
use Rattle.teco_law_tables.proofs.Reading.{node_checked}
use Rattle.teco_law_tables.proofs.Standing.{iterations_are}

-- ---- what the check says of a way
first_got : (xs : List ℕ) (x : ℕ) → slice_get xs 0 ≡ Some x → get_or xs 0 0 ≡ x
first_got [] x h = absurd (cc)
first_got (y ∷ xs) x h = cc

or_false : (a b : Bool) → a ≡ false → (a || b) ≡ true → b ≡ true
or_false true b e h = absurd (cc)
or_false false b e h = h

module _ (nodes : List Node) (table : Table) where
  arrive_at : (read : Option Element) (edges : Edges) (first way : ℕ) (ways : List ℕ) (target : ℕ)
      → IsTrue (arrive nodes table read edges first ways) → slice_get ways way ≡ Some target →
      IsTrue (begins_turn read (first + way) || arrives nodes table read target (along read (first + way) edges))
  arrive_at read edges first way [] target h g = absurd (cc)
  arrive_at read edges first zero (x ∷ ways) target h g =
      let e : x ≡ target = cc in
      let z : first ≡ first + 0 = omega arith in
      subst (λ k. IsTrue (begins_turn read k || arrives nodes table read target (along read k edges))) z
      (subst (λ x. IsTrue (begins_turn read first || arrives nodes table read x (along read first edges))) e
      (and_both _ _ h).0)
  arrive_at read edges first (suc way) (x ∷ ways) target h g =
      let z : suc first + way ≡ first + suc way = omega arith in
      subst (λ k. IsTrue (begins_turn read k || arrives nodes table read target (along read k edges))) z
      (arrive_at read edges (suc first) way ways target (and_both _ _ h).1 g)

  pub where_checked : (number : ℕ) (node : Node) (facts : Facts) → check_nodes nodes table ≡ Ok tt
      → numbered nodes number ≡ Some node → facts_at table number ≡ Some facts
      → IsTrue (is_known_in table node.stand.iterations facts)
      × IsTrue (closed_behind nodes table number node facts (edges_at nodes node facts))
  where_checked number node facts passes at known =
      let all : IsTrue (closed_where nodes table number node (Some facts)) =
      ap (closed_where nodes table number node) (sym known) ∙ node_checked nodes table number node passes at in
      and_both _ _ all

  pub known_in : (number : ℕ) (node : Node) (facts : Facts) → check_nodes nodes table ≡ Ok tt
      → numbered nodes number ≡ Some node → facts_at table number ≡ Some facts
      → IsTrue (is_known_in table node.stand.iterations facts)
  known_in number node facts passes at known = (where_checked number node facts passes at known).0

  pub behind_checked : (number : ℕ) (node : Node) (facts : Facts) (edges : Edges) → check_nodes nodes table ≡ Ok tt
      → numbered nodes number ≡ Some node → facts_at table number ≡ Some facts → edges_at nodes node facts ≡ Ok edges →
      closed_behind nodes table number node facts (Ok edges) ≡ true
  behind_checked number node facts edges passes at known leads =
      ap (closed_behind nodes table number node facts) (sym leads) ∙ (where_checked number node facts passes at known).1

  -- an edge is covered where it leads
  pub record Covered (target : ℕ) (next : Facts) : Type 0 where
    pub facts : Facts
    pub known : facts_at table target ≡ Some facts
    pub covered : IsTrue (covers facts next)

  covered_by : (target : ℕ) (next : Facts) (o : Option Facts) → facts_at table target ≡ o → is_covered o next ≡ true
      → Covered target next
  covered_by target next None e h = absurd (cc)
  covered_by target next (Some facts) e h = record { facts = facts; known = e; covered = h }

  not_behind : (target : ℕ) → target ≤ length nodes → nat_lt (length nodes) target ≡ false
  not_behind target l = by_test _ refl
    where
      by_test : (b : Bool) → nat_lt (length nodes) target ≡ b → nat_lt (length nodes) target ≡ false
      by_test false e = e
      by_test true e = absurd (omega (arith, l, ltb-true (length nodes) target e))

  way_arrives : (number : ℕ) (node : Node) (facts next : Facts) (edges : Edges) (way target : ℕ)
      → check_nodes nodes table ≡ Ok tt → numbered nodes number ≡ Some node → facts_at table number ≡ Some facts
      → edges_at nodes node facts ≡ Ok edges →
      slice_get node.ways way ≡ Some target → begins_turn node.element way ≡ false
      → along node.element way edges ≡ Some next
      → (if nat_lt (length nodes) target then is_return node.element else is_covered (facts_at table target) next)
      ≡ true
  way_arrives number node facts next edges way target passes at known leads taken turn on =
      let behind : IsTrue (closed_behind nodes table number node facts (Ok edges)) =
      behind_checked number node facts edges passes at known leads in
      let z : 0 + way ≡ way = omega arith in
      let all : IsTrue (arrive nodes table node.element edges 0 node.ways) = (and_both _ _ behind).1 in
      let this : IsTrue (begins_turn node.element way || arrives nodes table node.element target
      (along node.element way edges)) = subst (λ k.
      IsTrue (begins_turn node.element k || arrives nodes table node.element target (along node.element k edges))) z
      (arrive_at node.element edges 0 way node.ways target all taken) in
      let there : arrives nodes table node.element target (along node.element way edges) ≡ true =
      or_false (begins_turn node.element way) _ turn this in
      sym (ap (arrives nodes table node.element target) on) ∙ there

  pub way_covered : (number : ℕ) (node : Node) (facts next : Facts) (edges : Edges) (way target : ℕ)
      → check_nodes nodes table ≡ Ok tt → numbered nodes number ≡ Some node → facts_at table number ≡ Some facts
      → edges_at nodes node facts ≡ Ok edges →
      slice_get node.ways way ≡ Some target → begins_turn node.element way ≡ false
      → along node.element way edges ≡ Some next → nat_lt (length nodes) target ≡ false → Covered target next
  way_covered number node facts next edges way target passes at known leads taken turn on l =
      covered_by target next _ refl
      (sym (ap (λ b. if b then is_return node.element else is_covered (facts_at table target) next) l)
      ∙ way_arrives number node facts next edges way target passes at known leads taken turn on)

  -- the ways of elements lead to nodes
  pub way_within : (number : ℕ) (node : Node) (e : Element) (facts next : Facts) (edges : Edges) (way target : ℕ)
      → node.element ≡ Some e → check_nodes nodes table ≡ Ok tt → numbered nodes number ≡ Some node
      → facts_at table number ≡ Some facts → edges_at nodes node facts ≡ Ok edges →
      slice_get node.ways way ≡ Some target → begins_turn node.element way ≡ false
      → along node.element way edges ≡ Some next → nat_lt (length nodes) target ≡ false
  way_within number node e facts next edges way target reads passes at known leads taken turn on = by_test _ refl
    where
      by_test : (b : Bool) → nat_lt (length nodes) target ≡ b → nat_lt (length nodes) target ≡ false
      by_test false l = l
      by_test true l =
          let z : false ≡ true = sym (ap is_return reads)
          ∙ (sym (ap (λ b. if b then is_return node.element else is_covered (facts_at table target) next) l)
          ∙ way_arrives number node facts next edges way target passes at known leads taken turn on) in absurd (cc)

-- ---- where a step comes to
pub data Target (nodes : List Node) (entry target : ℕ) (stand : Stand) : Type 0 where
  AtNode : (node : Node) → numbered nodes target ≡ Some node → node.stand ≡ stand → Target nodes entry target stand
  AtEnd : over entry ≡ stand → Target nodes entry target stand

targets : (nodes : List Node) (entry k : ℕ) (stand : Stand)
    → slice_get (map stand_of_node nodes ++ over entry ∷ []) k ≡ Some stand → Target nodes entry (suc k) stand
targets [] entry zero stand h = AtEnd (cc)
targets [] entry (suc k) stand h = absurd (cc)
targets (node ∷ nodes) entry zero stand h = AtNode node refl (cc)
targets (node ∷ nodes) entry (suc k) stand h = further (targets nodes entry k stand h)
  where
    further : Target nodes entry (suc k) stand → Target (node ∷ nodes) entry (suc (suc k)) stand
    further (AtNode m at e) = AtNode m at e
    further (AtEnd e) = AtEnd e

pub target_is : (nodes : List Node) (entry k : ℕ) (stand : Stand) → numbered (stands nodes entry) k ≡ Some stand
    → Target nodes entry k stand
target_is nodes entry zero stand h = absurd (cc)
target_is nodes entry (suc k) stand h = targets nodes entry k stand h

-- ---- the run behind a way that begins no turn
run_flow : (f : Flow) (way between : ℕ) (world : World) (run : Run) → turns_by_flow f way ≡ false
    → run_by_flow f way between world run ≡ run_behind (left_by_flow f way between) run
run_flow flow.Iterate zero between world run h = absurd (cc)
run_flow flow.Iterate (suc way) between world run h = refl
run_flow flow.EndTurn zero between world run h = absurd (cc)
run_flow flow.EndTurn (suc way) between world run h = refl
run_flow f way between world run h = refl

run_kind : (k : Kind) (way between : ℕ) (world : World) (run : Run) → turns_by_kind k way ≡ false
    → run_by_kind k way between world run ≡ run_behind (left_by_kind k way between) run
run_kind (kind.Flow f) way between world run h = run_flow f way between world run h
run_kind k way between world run h = refl

run_behind_way : (read : Option Element) (way between : ℕ) (world : World) (run : Run) → begins_turn read way ≡ false
    → run_along read way between world run ≡ run_behind (left_along read way between) run
run_behind_way None way between world run h = refl
run_behind_way (Some e) way between world run h = run_kind e.kind way between world run h

run_dropped : (left n : ℕ) (below : List Pair) (turns : List OpenTurn)
    → run_behind left (run_at n below turns) ≡ run_at n below (drop left turns)
run_dropped left n below turns = ap (λ (begun : List ℕ). record { n = n; turns = begun; below = below })
    (begun_dropped left turns)

-- the iterations that are open stay while an element goes on
same_loops : (read : Option Element) (s last : State) → IsLast read s last → open_loops last ≡ open_loops s
same_loops read s last (Alone e) = ap open_loops e
same_loops read s last (Again e long) = ap (λ (frames : Frames). loops_in (frames.running ∷ frames.callers)) e

-- ---- the step
pub record Laws : Type 0 where
  pub open_at : IterationsAreOpen
  pub left : LeftHaveEnded
  pub lead : WaysLead

module _ (laws : Laws) (ground : Ground) (closed : AreClosed ground.nodes) (passage : Passage ground) where
  open ground use {library, entry, nodes, table, n, below, are, passes}
  open passage use {number, turns, s, last, t, here, again, goes, comes, loaded, whole}

  module _ (there : Node) (at : numbered nodes goes.target ≡ Some there)
      (stand : there.stand ≡ stand_at number here.node.stand (position_of t)) where
    pub stands_there : there.stand.position ≡ position_of t
    stands_there = ap (λ (stand : Stand). stand.position) stand

    pub leads_there : LeadsBy here.node.element goes.way (place_at number here.node.stand)
        (place_at goes.target there.stand)
    leads_there = laws.lead library entry nodes number here.node goes.way goes.target there.stand are here.at goes.taken
        (stand_of nodes entry goes.target there at)

    many_there : length (open_loops t) ≡ length there.stand.iterations
    many_there = loops_length nodes entry goes.target t there.stand.iterations
        (subst (λ (p : Position). AreOpen nodes entry goes.target (p.running ∷ p.callers) there.stand.iterations)
        stands_there (laws.open_at library entry nodes goes.target there are at))

    many_here : (length here.node.stand.iterations ≡ length (open_loops s))
        × (length here.node.stand.iterations ≡ length turns)
    many_here = opened_length table n here.node.stand.iterations (open_loops s) turns here.opened

    between_is : goes.way ≡ 0 → left_by nodes here.node ≡ length here.node.stand.iterations - length
        there.stand.iterations
    between_is z =
        let first : get_or here.node.ways 0 0 ≡ goes.target =
        first_got here.node.ways goes.target (ap (slice_get here.node.ways) (sym z) ∙ goes.taken) in
        ap (λ k. open_of here.node - k)
        (ap (open_at nodes) first ∙ ap (λ (o : Option Node). option_map_or open_of o 0) at)

    module _ (plain : begins_turn here.node.element goes.way ≡ false) where
      abbrev left : ℕ
      left = left_along here.node.element goes.way (left_by nodes here.node)

      counted_there : goes.way ≡ 0 → left_by nodes here.node ≡ length (open_loops last) - length (open_loops t)
      counted_there z = let b = between_is z in let l = ap length (same_loops here.node.element s last again) in
          omega (arith, b, l, many_here.0, many_there)

      is_ahead : Ahead left (place_at number here.node.stand) (place_at goes.target there.stand)
      is_ahead = ahead (place_at number here.node.stand) (place_at goes.target there.stand)
          (left_by nodes here.node) here.node.element goes.way between_is leads_there plain

      loops_there : open_loops t ≡ drop left (open_loops s)
      loops_there =
          step_loops here.node.element goes.way last t (left_by nodes here.node) counted_there goes.was plain
          ∙ ap (drop left) (same_loops here.node.element s last again)

      abbrev later : List OpenTurn
      later = drop left turns

      described_there : Describes (run_at n below later) comes.next (unread_of t.world) t.world.kept t.arguments
      described_there = subst (λ run. Describes run comes.next (unread_of t.world) t.world.kept t.arguments)
          (run_behind_way here.node.element goes.way (left_by nodes here.node) s.world
          (run_at n below turns) plain ∙ run_dropped left n below turns)
          comes.described

      covered : Covered nodes table goes.target comes.next
      covered = way_covered nodes table number here.node here.facts comes.next comes.edges goes.way goes.target passes
          here.at here.known comes.leads goes.taken plain comes.on_way
          (not_behind nodes table goes.target (number_within nodes goes.target there at).1)

      described_again : Describes (run_at n below later) covered.facts
          (unread_of t.world) t.world.kept t.arguments
      described_again = covers_are_sound (run_at n below later) covered.facts comes.next
          (unread_of t.world) t.world.kept t.arguments whole covered.covered described_there

      held_there : held_at nodes table n goes.target ≡ value covered.facts.held n
      held_there = held_known nodes table n goes.target covered.facts covered.known

      held_more : value comes.next.held n ≤ value covered.facts.held n
      held_more = values_compare comes.next.held covered.facts.held n
          (held_covered covered.facts comes.next covered.covered)

      ended : AllByRecursion (λ b. end_of nodes b < goes.target) (take left here.node.stand.iterations)
      ended = laws.left library entry nodes number goes.target left here.node there.stand are here.at
          (stand_of nodes entry goes.target there at) is_ahead.0 is_ahead.1

      open_still : AllByRecursion (λ b. goes.target ≤ end_of nodes b) (drop left here.node.stand.iterations)
      open_still = subst (AllByRecursion (λ b. goes.target ≤ end_of nodes b)) is_ahead.1
          (closed.ahead goes.target there at)

      reached : (k : ℕ) (facts : Facts) → facts_at table k ≡ Some facts → is_reached table k ≡ true
      reached zero facts h = refl
      reached (suc k) facts h = ap (λ (o : Option Facts). is_some o) h

      falls : AllByRecursion (λ b. FallFollows (if number == suc b then Some (pos 0) else None)
          (if goes.target == suc b then Some (pos 0) else None) (held_of s.world) (held_of t.world))
          there.stand.iterations
      falls = subst (AllByRecursion (λ b. FallFollows (if number == suc b then Some (pos 0) else None)
          (if goes.target == suc b then Some (pos 0) else None) (held_of s.world) (held_of t.world))) (sym is_ahead.1)
          (no_falls (λ b. if number == suc b then Some (pos 0) else None) goes.target (held_of s.world)
          (held_of t.world) number (drop left here.node.stand.iterations) is_ahead.0
          (descend_dropped left number here.node.stand.iterations (closed.descend number here.node here.at)))

      going : Goes (turning nodes table n) (shown number here.node.stand.iterations turns s.world)
          (shown goes.target there.stand.iterations later t.world)
      going = record {
        later = is_ahead.0;
        inside = omega (arith, number_within nodes goes.target there at);
        reached = reached goes.target covered.facts covered.known;
        loops = iterations_are nodes goes.target there at
            ∙ (is_ahead.1 ∙ (numbers_still (λ b. end_of nodes b) goes.target left here.node.stand.iterations ended
            open_still ∙ ap (λ ls. still_open (λ b. end_of nodes b) goes.target ls)
            (sym (iterations_are nodes number here.node here.at))));
        opened = ap (λ ls. loops_of ls later) is_ahead.1
            ∙ loops_still (λ b. end_of nodes b) goes.target left here.node.stand.iterations turns many_here.1 ended
            open_still;
        held = omega (arith, comes.grown, held_known nodes table n number here.facts here.known, held_there, held_more);
        ahead = omega (arith, held_there, described_again.state.held);
        falls = subst (λ ls. AllByRecursion (λ b. FallFollows (if number == suc b then Some (pos 0) else None)
            (if goes.target == suc b then Some (pos 0) else None) (held_of s.world) (held_of t.world)) ls)
            (sym (iterations_are nodes goes.target there at)) falls;
      }

      opened_there : AreOpened table n there.stand.iterations (open_loops t) later
      opened_there = subst (λ ls. AreOpened table n ls (open_loops t) later) (sym is_ahead.1)
          (subst (λ ls. AreOpened table n (drop left here.node.stand.iterations) ls later) (sym loops_there)
          (opened_dropped table n left here.node.stand.iterations (open_loops s) turns here.opened))

      pub goes_on : MovesOn library nodes table n below number here.node turns s goes.target t
      goes_on = record {
        there = there;
        at = at;
        later = later;
        move = Forward going;
        held = λ few. record {
          node = there;
          facts = covered.facts;
          at = at;
          known = covered.known;
          position = stands_there;
          begins = goes.done;
          loaded = loaded;
          whole = whole;
          opened = opened_there;
          described = described_again;
        };
      }
