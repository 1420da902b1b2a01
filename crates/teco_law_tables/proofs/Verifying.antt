-- A macro whose table is closed runs to its end in time.
use Rattle.teco_law_tables.proofs.Prelude.{◌≡◌, ◌⊎◌, inl, inr, ℕ, zero, suc, ◌+◌, ◌<◌, ◌≤◌, refl, sym, ap, ◌∙◌, subst}
use Rattle.teco_law_tables.proofs.Prelude.{arith, List, [], ◌∷◌, map, Bool, true, false, ◌||◌, Option, Some, None}
use Rattle.teco_law_tables.proofs.Prelude.{Result, Ok, Err, slice_get, rules, IsTrue, option_map_or, Loop, Element}
use Rattle.teco_law_tables.proofs.Prelude.{element_at, Reaches, run, go_on, World, Kept, Frame, State, Outcome, Next}
use Rattle.teco_law_tables.proofs.Prelude.{End, start, outcome_at, step, AreClosed, IterationsEnd, Library}
use Rattle.teco_law_tables.proofs.Prelude.{ArgumentRange, IsAsked, AreLinked, NodesAreSound, Node, stands, numbered}
use Rattle.teco_law_tables.proofs.Prelude.{Spot, Position, start_of, GoesTo, MovesFrom, Stayed, IsLeftAt, ways_at}
use Rattle.teco_law_tables.proofs.Prelude.{values_of_constants, unread_of, Alone, run_along, value_of, turning}
use Rattle.teco_law_tables.proofs.Prelude.{Polynomial, value, LIMIT, REGISTERS, Arguments, steps_in, call_given, Run}
use Rattle.teco_law_tables.proofs.Prelude.{Describes, without_answer, Facts, Edges, no_needs, needs, AreOpen, BeginsAt}
use Rattle.teco_law_tables.proofs.Prelude.{left_by, placed, edges_behind, edges_at, along, closed_behind, EndsWithin}
use Rattle.teco_law_tables.proofs.Prelude.{start_given, RunsEndInTime, run_at, steps_before, steps_of, needs_from}
use Rattle.teco_law_tables.proofs.Prelude.{needs_in, IsPrinted, Table, facts_at, IsReady, RefusalReason, CallLaws}
use Rattle.teco_law_tables.proofs.Prelude.{reads_none, none_yet, none_more}
use Rattle.teco_model.specs.Files.{Files}
use Rattle.teco_model.specs.Searching.{has_colon}
use Rattle.teco_model.specs.State.{frame_of}
use Rattle.teco_model.specs.Step.{end_outcome, end_of_text}
use Rattle.teco_model.specs.Macros.{Needs, call_of}
use Rattle.teco_law_runs.specs.Staying.{changes_files, ReadsNoFileCommand}
use Rattle.std.proofs.Common.{IfOk}
use Rattle.teco_law_runs.specs.Run.{Went}
use Rattle.teco_verifier.specs.expansion.Ways.{return_ways}
use Rattle.teco_verifier.specs.facts.Transfer.{transfer_return}
use Rattle.teco_law_facts.specs.SoundSteps.{ElementsAreNamed}
use Rattle.teco_law_runs.specs.Wholeness.{AreBytes, IsWholeWorld, IsWholeState, IsWholeOutcome, WholeIsKept}
use Rattle.teco_verifier.specs.table.Printed.{needs_of, known_needs}
use Rattle.teco_law_tables.specs.Verified.{RunsAreVerified}
use Rattle.teco_law_tables.proofs.Ground.{Ground, Arrival}
use Rattle.teco_law_tables.proofs.Completing as completing
use Rattle.teco_law_tables.proofs.Edging.{edges_fit}
use Rattle.teco_law_tables.proofs.Fitting.{steps_known, facts_fit}
use Rattle.teco_law_tables.proofs.Going.{where_checked}
use Rattle.teco_law_tables.proofs.Inside.{stands as stands_there, search_inside}
use Rattle.teco_law_tables.proofs.Counting.{commands_are_steps}
use Rattle.teco_law_runs.proofs.Pending.{argument_whole, given_ends}
use Rattle.teco_law_tables.proofs.Reading.{nodes_checked}
use Rattle.teco_law_tables.proofs.Underway.{element_here, none_amid, Goes, ElementsGo, elements_pass}

-- ---- what is whole stays so
whole_behind : (whole : WholeIsKept) (o : Outcome) → IsWholeOutcome o → IsWholeOutcome (go_on o)
whole_behind whole (Next s) h = whole.steps s h
whole_behind whole o h = h

whole_after : (whole : WholeIsKept) (k : ℕ) (s : State) → IsWholeState s → IsWholeOutcome (run k s)
unfolding run
whole_after whole zero s h = h
whole_after whole (suc k) s h = whole_behind whole (run k s) (whole_after whole k s h)

whole_there : (whole : WholeIsKept) (k : ℕ) (s u : State) → IsWholeState s → Reaches k s u → IsWholeState u
whole_there whole k s u h r = subst IsWholeOutcome r (whole_after whole k s h)

-- ---- the files that an element needs are among those of all
or_left : (a b : Bool) → a ≡ true → (a || b) ≡ true
or_left true b h = refl
or_left false b h = absurd (cc)

or_right : (a b : Bool) → b ≡ true → (a || b) ≡ true
or_right true b h = refl
or_right false b h = h

abbrev Among : Needs → Needs → Type 0
Among a b = (a.input ≡ true → b.input ≡ true) × (a.output ≡ true → b.output ≡ true)

needs_among : (table : Table) (k j : ℕ) (rest : List Node) (node : Node) (facts : Facts) → slice_get rest j ≡ Some node
    → facts_at table (k + j) ≡ Some facts → Among (needs_of node.element facts) (needs_from table k rest)
needs_among table k j [] node facts at known = absurd (cc)
needs_among table k zero (x ∷ rest) node facts at known =
    let same : x ≡ node = cc in
    let z : k + 0 ≡ k = omega arith in
    let first : option_map_or (needs_of x.element) (facts_at table k) no_needs ≡ needs_of node.element facts =
    ap (λ (o : Option Facts). option_map_or (needs_of x.element) o no_needs) (ap (facts_at table) (sym z) ∙ known)
    ∙ ap (λ (x : Node). needs_of x.element facts) same in (
      λ h. or_left _ _ (ap (λ (a : Needs). a.input) first ∙ h),
      λ h. or_left _ _ (ap (λ (a : Needs). a.output) first ∙ h),
    )
needs_among table k (suc j) (x ∷ rest) node facts at known =
    let z : suc k + j ≡ k + suc j = omega arith in
    let later = needs_among table (suc k) j rest node facts at (ap (facts_at table) z ∙ known) in (
      λ h. or_right (option_map_or (needs_of x.element) (facts_at table k) no_needs).input _ (later.0 h),
      λ h. or_right (option_map_or (needs_of x.element) (facts_at table k) no_needs).output _ (later.1 h),
    )

needs_in_all : (nodes : List Node) (table : Table) (k : ℕ) (node : Node) (facts : Facts) → numbered nodes k ≡ Some node
    → facts_at table k ≡ Some facts → Among (needs_of node.element facts) (needs_in nodes table)
unfolding needs_in
needs_in_all nodes table zero node facts at known = absurd (cc)
needs_in_all nodes table (suc k) node facts at known = let z : 1 + k ≡ suc k = omega arith in
    needs_among table 1 k nodes node facts at (ap (facts_at table) z ∙ known)

open_for : (r : Result Needs RefusalReason) (all : Needs) (files : Files) → Among (known_needs r) all
    → AreOpen all files
    → IfOk r (λ need. AreOpen need files)
open_for (Ok need) all files among open_all =
    record { input = λ h. open_all.input (among.0 h); output = λ h. open_all.output (among.1 h) }
open_for (Err why) all files among open_all = tt

-- ---- the edges of a node that is reached
edges_there : (nodes : List Node) (table : Table) (number : ℕ) (node : Node) (facts : Facts)
    (r : Result Edges RefusalReason)
    → IsTrue (closed_behind nodes table number node facts r) → (edges : Edges) × (r ≡ Ok edges)
edges_there nodes table number node facts (Ok edges) h = (edges, refl)
edges_there nodes table number node facts (Err why) h = absurd (cc)

-- ---- an element that begins
pub record Laws : Type 0 where
  pub steps : completing.Facts_laws
  pub sound : NodesAreSound
  pub named : ElementsAreNamed
  pub whole : WholeIsKept

returned : (run : Run) (facts : Facts) (unread : ℕ) (kept : Kept) (arguments : Arguments)
    → Describes run facts unread kept arguments → Describes run (without_answer facts) unread kept arguments
returned run facts unread kept arguments d = search rules

module _ (laws : Laws) (ground : Ground) (closed : AreClosed ground.nodes)
    (argument : Option ArgumentRange) (commands_are size_is : Polynomial)
    (printed : IsPrinted argument ground.nodes ground.table commands_are size_is)
    (small : value size_is ground.n ≤ LIMIT) (names : ElementsAreNamed) (first : State)
    (whole_first : IsWholeState first) where
  open ground use {library, entry, nodes, table, n, below, are, passes}

  module _ (arrival : Arrival ground) (taken : ℕ) (reached : Reaches taken first arrival.s)
      (files : AreOpen (needs_in nodes table) arrival.s.world.files) where
    open arrival use {number, turns, s, here}

    read_here : element_at s.frames.running.text s.frames.running.place ≡ Ok here.node.element
    read_here = element_here laws.sound ground arrival

    whole_here : IsWholeState s
    whole_here = whole_there laws.whole taken first s whole_first reached

    edges_here : (edges : Edges) × (edges_at nodes here.node here.facts ≡ Ok edges)
    edges_here = edges_there nodes table number here.node here.facts (edges_at nodes here.node here.facts)
        (where_checked nodes table number here.node here.facts passes here.at here.known).1

    element_passes : (e : Element) → here.node.element ≡ Some e
        → Goes library entry nodes table n below number turns s here
    element_passes e reads =
        let most = steps_known table argument nodes number here.node here.facts commands_are
        printed.commands_are here.at here.known in
        let begins : BeginsAt (run_at n below turns) here.facts (placed nodes here.node e) s = record {
          whole = whole_here;
          described = here.described;
          left = here.begins;
          read = read_here ∙ ap Ok reads;
          colon = ap (λ (p : Position). has_colon e (frame_of p.running.text)) here.position;
          named = names s.frames.running.text s.frames.running.place e (read_here ∙ ap Ok reads);
          stands = stands_there ground closed arrival e reads edges_here.0 edges_here.1;
          files = open_for (needs e.kind here.facts) (needs_in nodes table) s.world.files
              (subst (λ read. Among (needs_of read here.facts) (needs_in nodes table)) reads
              (needs_in_all nodes table number here.node here.facts here.at here.known)) files;
        } in
        completing.passing laws.steps ground arrival e reads edges_here.0 edges_here.1 most.0
        (sym (ap (λ read. steps_of read here.facts) reads) ∙ most.1)
        (edges_fit library entry nodes table n are passes
        (λ k node facts at known. facts_fit table nodes k node facts size_is n printed.size_is small at known) number
        here.node e here.facts
        edges_here.0 reads here.at here.known edges_here.1)
        begins
        (λ k u r. (whole_there laws.whole k s u whole_here r).world.kept)
        (λ q is colon. search_inside ground closed arrival e reads edges_here.0 edges_here.1 q is colon)
        files

    -- the end of a text
    module _ (reads : here.node.element ≡ None) where
      step_is : (loops : List Loop) → s.frames.running.loops ≡ loops → step s ≡ end_of_text loops s
      unfolding step
      step_is loops e = ap (outcome_at s) (read_here ∙ ap Ok reads) ∙ ap (λ loops. end_of_text loops s) e

      no_starts : (starts : List ℕ) (callers : List Spot) (targets : List Position)
          → return_ways starts callers ≡ Ok targets → starts ≡ []
      no_starts [] callers targets h = refl
      no_starts (start ∷ outer) callers targets h = absurd (cc)

      none_open : (loops : List Loop) → map start_of loops ≡ [] → loops ≡ []
      none_open [] h = refl
      none_open (loop ∷ outer) h = absurd (cc)

      loops_none : s.frames.running.loops ≡ []
      unfolding ways_at
      loops_none =
          let linked = are.each number here.node here.at in
          let ways : return_ways here.node.stand.position.running.starts here.node.stand.position.callers ≡ Ok
          linked.targets = ap (λ read. ways_at library read here.node.stand.position) (sym reads) ∙ linked.goes in
          none_open s.frames.running.loops (sym (ap (λ (p : Position). p.running.starts) here.position)
          ∙ no_starts here.node.stand.position.running.starts here.node.stand.position.callers linked.targets ways)

      module _ (caller : Frame) (callers : List Frame) (waiting : s.frames.callers ≡ caller ∷ callers) where
        abbrev next : State
        next = record s { frames = record { running = caller; callers = callers } }

        goes_back : step s ≡ Next next
        goes_back = step_is [] loops_none ∙ ap (λ callers. end_outcome callers s) waiting

        moved : MovesFrom (stands nodes entry) number here.node s next
            → GoesTo (stands nodes entry) number here.node s next
        moved (Went g) = g
        moved (Stayed st) = let z : None ≡ Some st.n = sym here.begins ∙ st.left in absurd (cc)

        went : GoesTo (stands nodes entry) number here.node s next
        went = moved (laws.steps.along library entry nodes number here.node s next are here.at here.position
            (subst (λ left. IsLeftAt here.node.element left) (sym here.begins) tt) here.loaded goes_back)

        reached_here : Reaches 0 s s
        unfolding run
        reached_here = refl

        none_here : ReadsNoFileCommand s
        none_here = reads_none s here.node.element read_here (ap changes_files reads)

        returning : Goes library entry nodes table n below number turns s here
        returning = record {
          amid = none_amid here.node.element s;
          passes = record {
            before = 0;
            last = s;
            next = next;
            reaches = reached_here;
            steps = goes_back;
            few = let one : value_of n (steps_of here.node.element here.facts) ≡ 1 =
                ap (value_of n) (ap (λ read. steps_of read here.facts) reads) ∙ (values_of_constants n 1).0 in
                omega (arith, one);
            none = none_more 0 s s (none_yet s) reached_here none_here;
            again = Alone refl;
            goes = went;
            comes = record {
              edges = transfer_return here.facts;
              next = without_answer here.facts;
              leads = ap (λ read. edges_behind nodes here.node read here.facts) reads;
              on_way = ap (λ read. along read went.way (transfer_return here.facts)) reads;
              described = subst (λ run. Describes run (without_answer here.facts)
                  (unread_of s.world) s.world.kept s.arguments)
                  (sym (ap (λ read. run_along read went.way (left_by nodes here.node) s.world
                  (run_at n below turns)) reads))
                  (returned (run_at n below turns) here.facts (unread_of s.world) s.world.kept s.arguments
                  here.described);
              grown = omega arith;
            };
            loaded = here.loaded;
            whole = here.whole;
            files = files;
          };
        }

      return_by : (callers : List Frame) → s.frames.callers ≡ callers
          → (step s ≡ End s.world) ⊎ Goes library entry nodes table n below number turns s here
      return_by [] e = inl (step_is [] loops_none ∙ ap (λ callers. end_outcome callers s) e)
      return_by (caller ∷ callers) e = inr (returning caller callers e)

    by_read : (read : Option Element) → here.node.element ≡ read
        → (step s ≡ End s.world) ⊎ Goes library entry nodes table n below number turns s here
    by_read None reads = return_by reads s.frames.callers refl
    by_read (Some e) reads = inr (element_passes e reads)

    pub passes_here : (step s ≡ End s.world) ⊎ Goes library entry nodes table n below number turns s here
    passes_here = by_read here.node.element refl

-- ---- the start
start_whole : Laws → (entry : ℕ) (argument : Option ArgumentRange) (given : Option ℕ) (world : World)
    → IsAsked argument given → AreBytes (call_of entry) → IsWholeWorld world
    → IsWholeState (start_given entry given world)
start_whole laws entry argument given world asked call whole = search argument_whole

-- the digits before the call take a step, where an argument is given
in_all : (laws : Laws) (calls : CallLaws) (entry : ℕ) (argument : Option ArgumentRange) (given : Option ℕ)
    (world : World) (steps most : ℕ) → entry < REGISTERS → IsAsked argument given
    → steps_before argument + steps ≡ most →
    EndsWithin (start_given entry given world) steps → EndsWithin (start (call_given entry given) world) most
in_all laws calls entry None None world steps most named asked all ends = search arith
in_all laws calls entry (Some range) (Some n) world steps most named asked all ends =
    subst (EndsWithin (start (call_given entry (Some n)) world)) all
    (given_ends calls entry n world named asked.small steps ends)
in_all laws calls entry argument given world steps most named asked all ends = absurd (grind arith)

pub elements_go : (laws : Laws) → IterationsEnd
    → (library : Library) (entry : ℕ) (argument : Option ArgumentRange) (given : Option ℕ) (nodes : List Node)
    (table : Table) (commands_are size_is : Polynomial) (n : ℕ) (world : World) → AreLinked library entry nodes
    → IsPrinted argument nodes table commands_are size_is → IsAsked argument given
    → IsReady library entry size_is n world →
    ElementsGo library entry nodes table n world.kept.registers.stack (start_given entry given world)
elements_go laws ends library entry argument given nodes table commands_are size_is n world are printed asked
    ready number turns steps s reached here files =
    let ground : Ground = record {
      library = library;
      entry = entry;
      nodes = nodes;
      table = table;
      n = n;
      below = world.kept.registers.stack;
      are = are;
      passes =
          nodes_checked nodes table argument printed.closed;
    } in
    passes_here laws ground (ends library entry nodes are) argument commands_are size_is printed ready.small
    laws.named (start_given entry given world)
    (start_whole laws entry argument given world asked ready.call ready.whole)
    (record { number = number; turns = turns; s = s; here = here }) steps reached files

pub runs_are_verified : Laws → CallLaws → IterationsEnd → RunsEndInTime → RunsAreVerified
runs_are_verified laws calls ends in_time library entry argument given nodes table commands_are size_is n world are
    printed asked ready files =
    in_all laws calls entry argument given world (steps_in (turning nodes table n)) (value commands_are n) ready.named
    asked (commands_are_steps argument nodes table commands_are n printed.commands_are)
    (in_time library entry argument given nodes table n world are printed.closed asked ready.loaded ready.whole.kept
    ready.begins files
    (elements_pass library entry nodes table n world.kept.registers.stack (start_given entry given world)
    (elements_go laws ends library entry argument given nodes table commands_are size_is n world are printed asked
    ready)))
