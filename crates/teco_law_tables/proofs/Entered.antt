-- A step of < into its body begins its first turn.
use Rattle.teco_law_tables.proofs.Prelude.{◌≡◌, ◌⊎◌, inl, inr, ℕ, zero, suc, ◌≤◌, ◌<◌, refl, sym, ap, ◌∙◌, subst, arith}
use Rattle.teco_law_tables.proofs.Prelude.{List, [], ◌∷◌, ◌++◌, map, Bool, true, false, pos, ℤ, Option, Some, None}
use Rattle.teco_law_tables.proofs.Prelude.{Result, Ok, is_some, ◌+◌, IsTrue, ⊤, AllByRecursion, Code, Into, Taken, Flow}
use Rattle.teco_law_tables.proofs.Prelude.{Kind, Element, Turn, World, State, end_of, AreClosed, LeadsBy, LeadsByKind}
use Rattle.teco_law_tables.proofs.Prelude.{place_at, Node, numbered, stand_at, position_of, is_long, StepWas}
use Rattle.teco_law_tables.proofs.Prelude.{ElementWas, Turns, Polynomial, value, and_both, covers_are_sound, KnownTaken}
use Rattle.teco_law_tables.proofs.Prelude.{arguments_of, Changes, Choice, body_start, begins, choice_stands, covers}
use Rattle.teco_law_tables.proofs.Prelude.{each_covers, is_same_iteration, Describes, HasFallen, fore_of, Iteration}
use Rattle.teco_law_tables.proofs.Prelude.{Facts, entered, unread_of, RefusalReason, Value, left_by, turns_by_kind}
use Rattle.teco_law_tables.proofs.Prelude.{begins_turn, say_same, is_counted, body_stands, is_entered, enters_by}
use Rattle.teco_law_tables.proofs.Prelude.{enters_at, closed_behind, OpenTurn, begun_of, run_at, loops_in, open_loops}
use Rattle.teco_law_tables.proofs.Prelude.{AreMore, IsOpened, AreOpened, held_of, loops_of, shown, run_by_kind}
use Rattle.teco_law_tables.proofs.Prelude.{run_along, IsLong, IsLast, Alone, Again, MovesOn, Table, facts_at, choice_at}
use Rattle.teco_law_tables.proofs.Prelude.{turns_at, value_of, is_reached, turning, changes_in, length-map}
use Rattle.teco_law_tables.proofs.Prelude.{turns_by_flow}
use Rattle.std.proofs.lemmas.Int.{ints}
use Rattle.teco_law_turns.specs.Moves as moves
use Rattle.teco_model.specs.declared.kind.Flow.TheVariants as flow
use Rattle.teco_model.specs.declared.kind.Kind.TheVariants as kind
use Rattle.teco_model.specs.Arguments as model
use Rattle.teco_model.specs.Flow.{later_turns}
use Rattle.teco_law_runs.specs.Leading.{IsInside}
use Rattle.teco_law_runs.specs.Turns as went
use Rattle.teco_law_facts.proofs.Bodies.{body_starts_are_sound}
use Rattle.teco_law_facts.proofs.Flowing.{taking_is, turns_are_sound}
use Rattle.teco_law_facts.proofs.Steps.{Covers}
use Rattle.teco_verifier.specs.facts.Covers.{is_same_truth}
use Rattle.teco_law_facts.specs.Describes.{IsOptional, IsTaken, back_of}
use Rattle.teco_verifier.specs.facts.Flows.{turns as turns_of}
use Rattle.teco_law_facts.specs.SoundElements.{Leads}
use Rattle.teco_law_facts.specs.SoundFlow.{AreTurns}
use Rattle.teco_verifier.specs.facts.Values.{IsValue}
use Rattle.teco_law_tables.proofs.Ground.{Ground, Passage}
use Rattle.teco_law_tables.proofs.Closing.{turns_known}
use Rattle.teco_law_tables.proofs.Entering.{Entering, enters}
use Rattle.teco_law_tables.proofs.Going.{Laws, behind_checked, stands_there, leads_there}
use Rattle.teco_law_facts.proofs.Each.{each_length}

-- ---- which ways begin a turn
pub data Begins (read : Option Element) (way : ℕ) : Type 0 where
  First : (e : Element) → read ≡ Some e → e.kind ≡ kind.Flow flow.Iterate → way ≡ 0 → Begins read way
  Further : (e : Element) → read ≡ Some e → e.kind ≡ kind.Flow flow.EndTurn → way ≡ 0 → Begins read way

flow_begins : (f : Flow) (way : ℕ) → turns_by_flow f way ≡ true → ((f ≡ flow.Iterate) ⊎ (f ≡ flow.EndTurn)) × (way ≡ 0)
flow_begins flow.Iterate zero h = (inl refl, refl)
flow_begins flow.EndTurn zero h = (inr refl, refl)
flow_begins f way h = absurd (grind arith)

kind_begins : (k : Kind) (way : ℕ) → turns_by_kind k way ≡ true
    → ((k ≡ kind.Flow flow.Iterate) ⊎ (k ≡ kind.Flow flow.EndTurn)) × (way ≡ 0)
kind_begins (kind.Flow f) way h = (of_flow b.0, b.1)
  where
    b : ((f ≡ flow.Iterate) ⊎ (f ≡ flow.EndTurn)) × (way ≡ 0)
    b = flow_begins f way h

    of_flow : (f ≡ flow.Iterate) ⊎ (f ≡ flow.EndTurn) → (kind.Flow f ≡ kind.Flow flow.Iterate)
        ⊎ (kind.Flow f ≡ kind.Flow flow.EndTurn)
    of_flow (inl e) = inl (ap (λ f. kind.Flow f) e)
    of_flow (inr e) = inr (ap (λ f. kind.Flow f) e)
kind_begins k way h = absurd (cc)

element_begins : (e : Element) (read : Option Element) (way : ℕ) → read ≡ Some e
    → ((e.kind ≡ kind.Flow flow.Iterate) ⊎ (e.kind ≡ kind.Flow flow.EndTurn)) × (way ≡ 0) → Begins read way
element_begins e read way reads (inl is, z) = First e reads is z
element_begins e read way reads (inr is, z) = Further e reads is z

pub begins_by : (read : Option Element) (way : ℕ) → begins_turn read way ≡ true → Begins read way
begins_by None way h = absurd (cc)
begins_by (Some e) way h = element_begins e (Some e) way refl (kind_begins e.kind way h)

-- ---- what is counted, by facts that say the same
pub truth_same : (a b : Bool) → IsTrue (is_same_truth a b) → a ≡ b
truth_same true b h = sym h
truth_same false true h = absurd (cc)
truth_same false false h = refl

pub counted_by : (is js : List Iteration) → IsTrue (each_covers is_same_iteration is js) → is_counted is ≡ is_counted js
counted_by [] [] h = refl
counted_by (i ∷ is) (j ∷ js) h = truth_same i.counted j.counted (and_both _ _ (and_both _ _ h).0).0
counted_by is js h = absurd (grind arith)

pub counted_covered : (facts edge : Facts) → IsTrue (covers facts edge)
    → is_counted facts.iterations ≡ is_counted edge.iterations
counted_covered facts edge c =
    let p = and_both _ _ c in
    let q = and_both _ _ p.0 in
    let r = and_both _ _ q.0 in
    let s = and_both _ _ r.0 in
    counted_by facts.iterations edge.iterations (and_both _ _ s.0).1

pub choice_begins : (choice : Choice) (changes : Changes) (counted : Bool) (most : Polynomial) (entering : Facts)
    (end : Option Facts) → IsTrue (choice_stands choice changes counted most entering end)
    → IsTrue (begins choice entering)
choice_begins choice changes counted most entering None h = h
choice_begins choice changes counted most entering (Some end) h = (and_both _ _ h).0

-- ---- a body that is entered
record Started (nodes : List Node) (table : Table) (begin : ℕ) (facts entering : Facts) : Type 0 where
  start : Facts
  choice : Choice
  most : Polynomial
  started : facts_at table (suc begin) ≡ Some start
  chosen : choice_at table begin ≡ Some choice
  turns_are : turns_of facts ≡ Ok most
  same : IsTrue (say_same start (body_start choice (changes_in nodes begin) entering))
  starts : IsTrue (begins choice entering)

started_by : (nodes : List Node) (table : Table) (begin : ℕ) (facts entering : Facts) (o : Option Facts)
    (c : Option Choice) (r : Result Polynomial RefusalReason) → facts_at table (suc begin) ≡ o
    → choice_at table begin ≡ c
    → turns_of facts ≡ r →
    IsTrue (body_stands (changes_in nodes begin) (facts_at table (end_of nodes begin)) entering o c r)
    → Started nodes table begin facts entering
started_by nodes table begin facts entering (Some start) (Some choice) (Ok most) s k t h =
    let p = and_both _ _ h in
    record {
      start = start;
      choice = choice;
      most = most;
      started = s;
      chosen = k;
      turns_are = t;
      same = p.0;
      starts = choice_begins choice (changes_in nodes begin) (is_counted entering.iterations) most entering
          (facts_at table (end_of nodes begin)) p.1;
    }
started_by nodes table begin facts entering o c r s k t h = absurd (grind arith)

-- ---- how many turns come after the first
record First_turn (table : Table) (counted : Bool) (most ahead : ℕ) (left : Option ℕ) : Type 0 where
  more : ℕ
  is : AreMore left counted (record { begun = ahead; more = more })
  few : more < most

later_is : (v : ℤ) (more : ℕ) → later_turns v ≡ Some more → v ≡ pos (suc more)
later_is (pos (suc m)) more h = let e : m ≡ more = cc in ap (λ k. pos (suc k)) e
later_is v more h = absurd (grind arith)

first_turn : (table : Table) (counted : Bool) (most ahead : ℕ) (value : Option ℤ) (left : Option ℕ)
    → went.Counts value left → AreTurns most ahead value → (counted ≡ is_some value)
    → First_turn table counted most ahead left
first_turn table counted most ahead None left counts are f =
    record {
      more = ahead;
      is = subst (λ left. AreMore left counted (record { begun = ahead; more = ahead }))
          (sym counts) (f, omega arith);
      few = omega (arith, are);
    }
first_turn table counted most ahead (Some v) left counts are f =
    record {
      more = counts.0;
      is = subst (λ left. AreMore left counted (record { begun = ahead; more = counts.0 }))
          (sym counts.1) (f, refl);
      few = omega (arith, ints, are, later_is v counts.0 counts.2);
    }

taken_turns : (n a : ℕ) (r : Result Polynomial RefusalReason) (c : Result Taken Code) (p : Polynomial) (taken : Taken)
    → r ≡ Ok p → c ≡ Ok taken → Leads (λ edges. ⊤) (λ p (taken : Taken). AreTurns (value p n) a taken.value) r c
    → AreTurns (value p n) a taken.value
taken_turns n a r c p taken e f h =
    (subst (λ c. Leads (λ edges. ⊤) (λ p (taken : Taken). AreTurns (value p n) a taken.value) (Ok p) c) f
    (subst (λ r. Leads (λ edges. ⊤) (λ p (taken : Taken). AreTurns (value p n) a taken.value) r c) e h)) tt

both_optional : (fore back : ℕ) (known : Option Value) (v : Option ℤ) → IsOptional (IsValue fore back) known v
    → is_some known ≡ is_some v
both_optional fore back None None h = refl
both_optional fore back (Some k) (Some v) h = refl
both_optional fore back known v h = absurd (grind arith)

both_taken : (fore back : ℕ) (r : Result KnownTaken RefusalReason) (c : Result Taken Code) (known : KnownTaken)
    (taken : Taken) → r ≡ Ok known → c ≡ Ok taken → Covers (IsTaken fore back) r c
    → is_some known.value ≡ is_some taken.value
both_taken fore back r c known taken e f h =
    both_optional fore back known.value taken.value
    (subst (λ c. Covers (IsTaken fore back) (Ok known) c) f (subst (λ r. Covers (IsTaken fore back) r c) e h)).value

-- ---- the step
short : (f : Flow) (k : Kind) → k ≡ kind.Flow f → is_long k ≡ true → ⊥
short f k is long = let z : false ≡ true = sym (ap is_long is) ∙ long in absurd (cc)

pub not_again : (f : Flow) (e : Element) (read : Option Element) (s last : State) → read ≡ Some e → e.kind ≡ kind.Flow f
    → IsLast read s last → last ≡ s
not_again f e read s last reads is (Alone same) = same
not_again f e read s last reads is (Again same long) = absurd (short f e.kind is (subst IsLong reads long))

pub world_same : (f : Flow) (way : ℕ) (e : Element) (s t : State) → Turns f way e s t → t.world ≡ s.world
world_same f way e s t w = ap (λ (t : State). t.world) w.gone

module _ (laws : Laws) (ground : Ground) (closed : AreClosed ground.nodes) (passage : Passage ground) where
  open ground use {library, entry, nodes, table, n, below, are, passes}
  open passage use {number, turns, s, last, t, here, again, goes, comes, loaded, whole}

  module _ (there : Node) (at : numbered nodes goes.target ≡ Some there)
      (stand : there.stand ≡ stand_at number here.node.stand (position_of t)) where
    module _ (e : Element) (reads : here.node.element ≡ Some e) (is : e.kind ≡ kind.Flow flow.Iterate)
        (first : goes.way ≡ 0) where
      was : Turns flow.Iterate zero e s t
      was = subst (λ (last : State). Turns flow.Iterate zero e last t)
          (not_again flow.Iterate e here.node.element s last reads is again)
          (subst (λ k. ElementWas k zero e last t) is
          (subst (λ way. StepWas (Some e) way last t) first
          (subst (λ read. StepWas read goes.way last t) reads goes.was)))

      into : IsInside (place_at number here.node.stand) (place_at goes.target there.stand)
      into = subst (λ k. LeadsByKind k zero (place_at number here.node.stand) (place_at goes.target there.stand)) is
          (subst (λ way. LeadsBy (Some e) way (place_at number here.node.stand) (place_at goes.target there.stand))
          first
          (subst (λ read. LeadsBy read goes.way (place_at number here.node.stand) (place_at goes.target there.stand))
          reads
          (leads_there laws ground closed passage there at stand)))

      on : comes.edges.on ≡ Some comes.next
      on = search is

      same_world : t.world ≡ s.world
      same_world = world_same flow.Iterate zero e s t was

      abbrev begun : ℕ
      begun = fore_of s.world.kept + unread_of s.world

      entering : Entering here.facts comes.next
      entering = enters nodes here.node e here.facts comes.next comes.edges reads is comes.leads on

      entered_there : is_entered nodes table number here.facts comes.edges.on ≡ true
      entered_there =
          let behind : IsTrue (closed_behind nodes table number here.node here.facts (Ok comes.edges)) =
          behind_checked nodes table number here.node here.facts comes.edges passes here.at here.known comes.leads
          in
          let stands_here : enters_at nodes table number here.facts comes.edges here.node.element ≡ true =
          (and_both _ _ behind).0 in
          sym (ap (enters_at nodes table number here.facts comes.edges) reads
          ∙ ap (enters_by nodes table number here.facts comes.edges) is) ∙ stands_here

      body : Started nodes table number here.facts comes.next
      body = started_by nodes table number here.facts comes.next _ _ _ refl refl refl
          (sym (ap (is_entered nodes table number here.facts) on) ∙ entered_there)

      counted : is_counted body.start.iterations ≡ is_some entering.taken.value
      counted = counted_covered body.start (body_start body.choice (changes_in nodes number) comes.next)
          (and_both _ _ body.same).0 ∙ ap (λ (facts : Facts). is_counted facts.iterations) entering.is

      first_one : First_turn table (is_counted body.start.iterations) (value body.most n) begun was.went.turns
      first_one = first_turn table (is_counted body.start.iterations) (value body.most n) begun was.went.value
          was.went.turns was.went.counts
          (subst (λ v. AreTurns (value body.most n) begun v) was.went.took.value_is
          (taken_turns n begun (turns_of here.facts) (model.arguments_of s.arguments.level)
          body.most was.went.took.taken body.turns_are was.went.took.took
          (turns_are_sound (run_at n below turns) here.facts (unread_of s.world) s.world.kept s.arguments
          here.whole here.described)))
          (counted ∙ (both_taken (fore_of s.world.kept) (back_of s.world.kept) (arguments_of here.facts.arguments.level)
          (model.arguments_of s.arguments.level) entering.taken was.went.took.taken entering.took was.went.took.took
          (taking_is (run_at n below turns) here.facts (unread_of s.world) s.world.kept s.arguments here.whole
          here.described) ∙ ap (λ v. is_some v) was.went.took.value_is))

      abbrev turn : OpenTurn
      turn = record { begun = begun; more = first_one.more }

      abbrev later : List OpenTurn
      later = turn ∷ turns

      -- what is known on the way in describes the state there
      run_is : run_along here.node.element goes.way (left_by nodes here.node) s.world
          (run_at n below turns) ≡ run_at n below later
      run_is =
          ap (λ read. run_along read goes.way (left_by nodes here.node) s.world (run_at n below turns)) reads
          ∙ (ap (λ way. run_along (Some e) way (left_by nodes here.node) s.world (run_at n below turns)) first
          ∙ ap (λ k. run_by_kind k zero (left_by nodes here.node) s.world (run_at n below turns)) is)

      described_in : Describes (run_at n below later) (entered (is_some entering.taken.value) here.facts)
          (unread_of s.world) s.world.kept t.arguments
      described_in =
          subst (λ facts. Describes (run_at n below later) facts (unread_of s.world) s.world.kept t.arguments)
          entering.is
          (subst (λ (world : World). Describes (run_at n below later) comes.next
          (unread_of world) world.kept t.arguments) same_world
          (subst (λ run. Describes run comes.next (unread_of t.world) t.world.kept t.arguments) run_is comes.described))

      described_start : Describes (run_at n below later)
          (body_start body.choice (changes_in nodes number) (entered (is_some entering.taken.value) here.facts))
          (unread_of s.world) s.world.kept t.arguments
      described_start = body_starts_are_sound (run_at n below turns) here.facts
          (unread_of s.world) s.world.kept t.arguments body.choice (changes_in nodes number)
          (is_some entering.taken.value) here.whole
          (subst (λ facts. IsTrue (begins body.choice facts)) entering.is body.starts) described_in

      described_there : Describes (run_at n below later) body.start (unread_of t.world) t.world.kept t.arguments
      described_there = subst (λ (world : World). Describes (run_at n below later) body.start
          (unread_of world) world.kept t.arguments) (sym same_world)
          (covers_are_sound (run_at n below later) body.start
          (body_start body.choice (changes_in nodes number) comes.next) (unread_of s.world) s.world.kept t.arguments
          here.whole (and_both _ _ body.same).0
          (subst (λ facts. Describes (run_at n below later)
          (body_start body.choice (changes_in nodes number) facts) (unread_of s.world) s.world.kept t.arguments)
          (sym entering.is) described_start))

      opened_there : AreOpened table n there.stand.iterations (open_loops t) later
      opened_there =
          let to : open_loops t ≡ record { start = e.next; turns = was.went.turns } ∷ open_loops s =
          ap open_loops was.gone ∙ ap (λ (turn : Turn). turn.frame.loops ++ loops_in s.frames.callers) was.went.gone
          in
          let own : IsOpened table n number (record { start = e.next; turns = was.went.turns }) turn turns =
          record {
            facts = here.facts;
            start = body.start;
            choice = body.choice;
            known = here.known;
            started = body.started;
            chosen = body.chosen;
            more = first_one.is;
            falls = each_length (HasFallen begun) here.facts.position.falls
                (map begun_of turns) here.described.state.position.fallen ∙ length-map turns begun_of;
            ahead = λ k. here.described.state.position.ahead;
            fallen = λ k. here.described.state.position.fallen;
          } in
          subst (λ ls. AreOpened table n ls (open_loops t) later) (sym into.1)
          (subst (λ ls. AreOpened table n (number ∷ here.node.stand.iterations) ls later) (sym to) (
            own,
            here.opened,
          ))

      started_at : facts_at table goes.target ≡ Some body.start
      started_at = ap (facts_at table) into.0 ∙ body.started

      ends_ahead : number < end_of nodes number
      ends_ahead = let all = subst (AllByRecursion (λ b. goes.target ≤ end_of nodes b)) into.1
          (closed.ahead goes.target there at) in omega (arith, all.0, into.0)

      few : first_one.more < value_of n (turns_at table number)
      few = omega (
        arith,
        first_one.few,
        turns_known nodes table n number here.facts body.start here.known body.started body.most body.turns_are,
      )

      entering_it : moves.Enters (turning nodes table n)
          (shown number here.node.stand.iterations turns s.world)
          (shown goes.target there.stand.iterations later t.world)
      entering_it = record {
        is_loop = ends_ahead;
        node = into.0;
        reached = ap (is_reached table) into.0 ∙ ap (λ (o : Option Facts). is_some o) body.started;
        more = Some first_one.more;
        opened = ap (λ ls. loops_of ls later) into.1;
        begins = let w : held_of t.world ≡ held_of s.world = ap held_of same_world in
            record { held = omega (arith, w); ahead = omega (arith, w); within = omega arith };
        turns = few;
      }

      pub begins_first : MovesOn library nodes table n below number here.node turns s goes.target t
      begins_first = record {
        there = there;
        at = at;
        later = later;
        move = Into entering_it;
        held = λ few. record {
          node = there;
          facts = body.start;
          at = at;
          known = started_at;
          position = stands_there laws ground closed passage there at stand;
          begins = goes.done;
          loaded = loaded;
          whole = whole;
          opened = opened_there;
          described = described_there;
        };
      }
