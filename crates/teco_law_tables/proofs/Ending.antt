-- A run with a closed table ends in time.
use Rattle.teco_law_tables.proofs.Prelude.{◌≡◌, ◌⊎◌, inl, inr, ℕ, zero, suc, ◌+◌, ◌≤◌, ◌<◌, refl, sym, ap, ◌∙◌, subst}
use Rattle.teco_law_tables.proofs.Prelude.{arith, List, [], true, Option, Some, None, Ok, is_some, IsTrue}
use Rattle.teco_law_tables.proofs.Prelude.{AllByRecursion, Shown, Move, Forward, FallFollows, steps_in, Reaches, run}
use Rattle.teco_law_tables.proofs.Prelude.{go_on, World, State, End, step, Library, IsLoaded, ArgumentRange, IsAsked}
use Rattle.teco_law_tables.proofs.Prelude.{AreLinked, Stand, Node, beginning, over, numbered, position_of, value}
use Rattle.teco_law_tables.proofs.Prelude.{and_both, covers_are_sound, IsWhole, Facts, unread_of, AreOpen, say_same}
use Rattle.teco_law_tables.proofs.Prelude.{is_entry, check, Passes, ElementsPass, EndsWithin, start_given}
use Rattle.teco_law_tables.proofs.Prelude.{RunsEndInTime, OpenTurn, run_at, AreOpened, IsDescribed, held_of, loops_of}
use Rattle.teco_law_tables.proofs.Prelude.{shown, TablesAreClosed, MovesOn, ComesOn, Over, On, StepsMove, steps_of}
use Rattle.teco_law_tables.proofs.Prelude.{needs_in, NoFileCommands, Table, facts_at, value_of, own_of, held_at}
use Rattle.teco_law_tables.proofs.Prelude.{turning, values_of_constants, blank_len, number_within, same_node, none_yet}
use Rattle.teco_law_tables.proofs.Prelude.{reaches_here}
use Rattle.teco_verifier.specs.facts.Argument.{arguments_given, facts_given}
use Rattle.teco_law_turns.specs.Moves.{IsStart, RunsAreBounded}
use Rattle.teco_law_turns.specs.Table.{IsClosed}
use Rattle.teco_law_turns.specs.Turns.{RunsAreCovered}
use Rattle.teco_law_runs.specs.Run.{RunsEnd}
use Rattle.teco_law_facts.proofs.Bodies.{entry_is_sound}
use Rattle.teco_law_runs.specs.Ready.{IsEntry}
use Rattle.teco_law_tables.proofs.Ground.{Ground}
use Rattle.teco_law_tables.proofs.Closing.{held_known, held_same}
use Rattle.teco_law_tables.proofs.Going.{Target, AtNode, AtEnd, target_is}
use Rattle.teco_law_tables.proofs.Standing.{iterations_are}
use Rattle.teco_law_tables.proofs.Reading.{entry_checked, nodes_checked}
use Rattle.teco_law_tables.proofs.Moves.{Came, came_leads, came_on, came_takes}
use Rattle.teco_law_runs.proofs.Walking.{none_on, reaches_on}

pub record Laws : Type 0 where
  pub bounded : RunsAreBounded
  pub covered : RunsAreCovered
  pub over : RunsEnd
  pub closed : TablesAreClosed
  pub moves : StepsMove

-- a run over a closed table, from the call on, and how the law of turns sees its beginning
pub record Course : Type 0 where
  pub ground : Ground
  pub open ground use *
  pub first : State
  pub zeroth : Shown
  pub begins : IsStart (turning nodes table n) zeroth

module _ (laws : Laws) (c : Course) (pass : ElementsPass c.library c.entry c.nodes c.table c.n c.below c.first) where
  open c use {library, entry, nodes, table, n, below, first, zeroth, are, passes, begins}

  abbrev EndsInTime : Type 0
  EndsInTime = EndsWithin first (steps_in (turning nodes table n))

  pub closed : IsClosed (turning nodes table n)
  closed = laws.closed library entry nodes table n are passes

  few_steps : (moves total k : ℕ) (last : Shown) → Came (turning nodes table n) moves zeroth total last
      → k ≤ (turning nodes table n).own last.node
      → total + k ≤ steps_in (turning nodes table n)
  few_steps moves total k last c l =
      let all = laws.bounded (turning nodes table n) zeroth moves (total + k) closed begins
      (came_takes (turning nodes table n) moves zeroth last total k c l) in
      omega (arith, all)

  -- where a run has come to
  pub record At (number : ℕ) (turns : List OpenTurn) (s : State) : Type 0 where
    pub total : ℕ
    pub moves : ℕ
    pub reached : Reaches total first s
    pub here : IsDescribed library nodes table n below number turns s
    pub came : Came (turning nodes table n) moves zeroth total
        (shown number here.node.stand.iterations turns s.world)
    pub files : AreOpen (needs_in nodes table) s.world.files
    pub none : NoFileCommands first total

  ends_here : (number : ℕ) (turns : List OpenTurn) (s : State) (at : At number turns s) → step s ≡ End s.world
      → EndsInTime
  ends_here number turns s at e = record {
    steps = at.total;
    new = s.world;
    few = let few = few_steps at.moves at.total 0 (shown number at.here.node.stand.iterations turns s.world)
        at.came (omega arith) in omega (arith, few);
    none = at.none;
    ends = record { last = s; steps = at.reached; end = e };
  }

  module _ (number : ℕ) (turns : List OpenTurn) (s : State) (at : At number turns s)
      (passing : Passes library entry nodes table n below number turns s at.here) where
    own_there : suc passing.before ≤ own_of n (numbered nodes number) (facts_at table number)
    own_there = let e : own_of n (numbered nodes number) (facts_at table number) ≡ value_of n
        (steps_of at.here.node.element at.here.facts) =
        ap (λ (o : Option Node). own_of n o (facts_at table number)) at.here.at
        ∙ ap (own_of n (Some at.here.node)) at.here.known in omega (arith, e, passing.few)

    reaches_next : Reaches (at.total + suc passing.before) first passing.next
    unfolding run
    reaches_next = reaches_on at.total (suc passing.before) first s passing.next at.reached
        (ap go_on passing.reaches ∙ passing.steps)

    none_next : NoFileCommands first (at.total + suc passing.before)
    none_next = none_on at.total (suc passing.before) first s at.none at.reached passing.none

    ends_there : (over entry).position ≡ position_of passing.next → EndsInTime
    ends_there o = record {
      steps = at.total + suc passing.before;
      new = passing.next.world;
      few = few_steps at.moves at.total (suc passing.before) _ at.came own_there;
      none = none_next;
      ends = record { last = passing.next; steps = reaches_next; end = laws.over entry passing.next o };
    }

    pub on_there : (m : MovesOn library nodes table n below number at.here.node turns s passing.goes.target
        passing.next) → At passing.goes.target m.later passing.next
    on_there m =
        let came = came_on (turning nodes table n) at.moves zeroth
        (shown number at.here.node.stand.iterations turns s.world)
        (shown passing.goes.target m.there.stand.iterations m.later passing.next.world) at.total
        (suc passing.before) at.came m.move own_there in
        let within =
        (laws.covered (turning nodes table n) zeroth
        (shown passing.goes.target m.there.stand.iterations m.later passing.next.world)
        (suc at.moves) closed begins (came_leads (turning nodes table n) (suc at.moves) zeroth
        (shown passing.goes.target m.there.stand.iterations m.later passing.next.world)
        (at.total + suc passing.before) came)).held in
        let next = m.held within in
        record {
          total = at.total + suc passing.before;
          moves = suc at.moves;
          reached = reaches_next;
          here = next;
          came = subst (λ (node : Node). Came (turning nodes table n) (suc at.moves) zeroth
              (at.total + suc passing.before)
              (shown passing.goes.target node.stand.iterations m.later passing.next.world))
              (same_node nodes passing.goes.target m.there next.node m.at next.at) came;
          files = passing.files;
          none = none_next;
        }

    more_there : (m : MovesOn library nodes table n below number at.here.node turns s passing.goes.target passing.next)
        → at.total + 1 ≤ (on_there m).total
    unfolding on_there
    more_there m = omega arith

  walk : (fuel : ℕ) (number : ℕ) (turns : List OpenTurn) (s : State) (at : At number turns s)
      → steps_in (turning nodes table n) < at.total + fuel → EndsInTime
  walk zero number turns s at l =
      let few = few_steps at.moves at.total 0 (shown number at.here.node.stand.iterations turns s.world)
      at.came (omega arith) in
      absurd (omega (arith, few, l))
  walk (suc fuel) number turns s at l =
      go (pass number turns at.total s at.reached at.here at.files)
      (λ p m. walk fuel p.goes.target m.later p.next (on_there number turns s at p m)
      (omega (arith, l, more_there number turns s at p m)))
    where
      by_end : (p : Passes library entry nodes table n below number turns s at.here)
          → ComesOn library entry nodes table n below number at.here.node turns s p.goes.target p.next →
          (MovesOn library nodes table n below number at.here.node turns s p.goes.target p.next → EndsInTime)
          → EndsInTime
      by_end p (Over o) on = ends_there number turns s at p o
      by_end p (On m) on = on m

      go : (step s ≡ End s.world) ⊎ Passes library entry nodes table n below number turns s at.here →
          ((p : Passes library entry nodes table n below number turns s at.here)
          → MovesOn library nodes table n below number at.here.node turns s p.goes.target p.next → EndsInTime)
          → EndsInTime
      go (inl e) on = ends_here number turns s at e
      go (inr p) on =
          by_end p (laws.moves library entry nodes table n below number turns s p.last p.next are passes at.here p.again
          p.goes p.comes p.loaded p.whole) (on p)

-- ---- the start
-- N holds all there, whatever is known of the argument
held_given : (argument : Option ArgumentRange) (n : ℕ) → value (facts_given argument).held n ≡ n
held_given None n = (values_of_constants n 0).1
held_given (Some range) n = (values_of_constants n 0).1

-- the call of a macro with a closed table, in a world where it may be called
pub record ClosedCall : Type 0 where
  pub library : Library
  pub entry : ℕ
  pub argument : Option ArgumentRange
  pub given : Option ℕ
  pub nodes : List Node
  pub table : Table
  pub n : ℕ
  pub world : World
  pub are : AreLinked library entry nodes
  pub passes : check argument nodes table ≡ Ok tt
  pub asked : IsAsked argument given
  pub loaded : IsLoaded library world.kept
  pub whole : IsWhole world.kept
  pub entering : IsEntry n (unread_of world) world.kept

module _ (call : ClosedCall) where
  open call use {
    library,
    entry,
    argument,
    given,
    nodes,
    table,
    n,
    world,
    are,
    passes,
    asked,
    loaded,
    whole,
    entering,
  }

  abbrev pub first : State
  first = start_given entry given world

  -- the first node, and what is known there
  record First : Type 0 where
    node : Node
    facts : Facts
    at : numbered nodes 1 ≡ Some node
    stand : node.stand ≡ beginning entry
    known : facts_at table 1 ≡ Some facts
    same : IsTrue (say_same facts (facts_given argument))

  first_known : (node : Node) → numbered nodes 1 ≡ Some node → node.stand ≡ beginning entry → (o : Option Facts)
      → facts_at table 1 ≡ o → is_entry argument o ≡ true → First
  first_known node at stand None known e = absurd (cc)
  first_known node at stand (Some facts) known e =
      record { node = node; facts = facts; at = at; stand = stand; known = known; same = e }

  first_at : Target nodes entry 1 (beginning entry) → First
  unfolding blank_len
  first_at (AtNode node at stand) = first_known node at stand _ refl (entry_checked nodes table argument passes)
  first_at (AtEnd e) = let z : 2 ≡ 0 = ap (λ (stand : Stand). stand.position.running.place) e in
      absurd (omega (arith, z))

  one : First
  one = first_at (target_is nodes entry 1 (beginning entry) are.first)

  none_open : one.node.stand.iterations ≡ []
  none_open = ap (λ (stand : Stand). stand.iterations) one.stand

  held_one : held_at nodes table n 1 ≡ n
  held_one = held_known nodes table n 1 one.facts one.known
      ∙ (held_same one.facts (facts_given argument) n one.same ∙ held_given argument n)

  described : IsDescribed library nodes table n world.kept.registers.stack 1 [] first
  described = record {
    node = one.node;
    facts = one.facts;
    at = one.at;
    known = one.known;
    position = ap (λ (stand : Stand). stand.position) one.stand;
    begins = refl;
    loaded = loaded;
    whole = whole;
    opened = subst (λ begins. AreOpened table n begins [] []) (sym none_open) tt;
    described = covers_are_sound (run_at n world.kept.registers.stack []) one.facts (facts_given argument)
        (unread_of world) world.kept (arguments_given given) whole (and_both _ _ one.same).0
        (entry_is_sound n (unread_of world) world.kept argument given whole entering asked);
  }

  abbrev zeroth : Shown
  zeroth = shown 0 [] [] world

  pub begins : IsStart (turning nodes table n) zeroth
  begins = record {
    node = refl;
    some = omega arith;
    reached = refl;
    loops = refl;
    opened = refl;
    held = entering.held;
    ahead = entering.held;
  }

  into_first : Move (turning nodes table n) zeroth (shown 1 one.node.stand.iterations [] world)
  into_first = Forward (record {
    later = omega arith;
    inside = omega (arith, number_within nodes 1 one.node one.at);
    reached = ap (λ (o : Option Facts). is_some o) one.known;
    loops = iterations_are nodes 1 one.node one.at ∙ none_open;
    opened = ap (λ begins. loops_of begins []) none_open;
    held = omega (arith, held_one);
    ahead = omega (arith, held_one, entering.held);
    falls = subst (AllByRecursion (λ l. FallFollows ((turning nodes table n).fall 0 l)
        ((turning nodes table n).fall 1 l) (held_of world) (held_of world)))
        (sym (iterations_are nodes 1 one.node one.at ∙ none_open)) tt;
  })

  came_first : Came (turning nodes table n) 1 zeroth 0 (shown 1 one.node.stand.iterations [] world)
  came_first = came_on (turning nodes table n) 0 zeroth zeroth (shown 1 one.node.stand.iterations [] world) 0 0 (
    refl,
    refl,
  ) into_first (omega arith)

  abbrev pub course : Course
  course = record {
    ground = record {
      library = library;
      entry = entry;
      nodes = nodes;
      table = table;
      n = n;
      below = world.kept.registers.stack;
      are = are;
      passes =
          nodes_checked nodes table argument passes;
    };
    first = first;
    zeroth = zeroth;
    begins = begins;
  }

  pub at_first : (laws : Laws) (pass : ElementsPass library entry nodes table n world.kept.registers.stack first)
      → AreOpen (needs_in nodes table) world.files → At laws course pass 1 [] first
  unfolding described one
  at_first laws pass files = record {
    total = 0;
    moves = 1;
    reached = reaches_here first;
    here = described;
    came = came_first;
    files = files;
    none = none_yet first;
  }

pub runs_end_in_time : Laws → RunsEndInTime
unfolding at_first
runs_end_in_time laws library entry argument given nodes table n world are passes asked loaded whole entering
    files pass =
    let call : ClosedCall = record {
      library = library;
      entry = entry;
      argument = argument;
      given = given;
      nodes = nodes;
      table = table;
      n = n;
      world = world;
      are = are;
      passes = passes;
      asked = asked;
      loaded = loaded;
      whole = whole;
      entering = entering;
    } in
    walk laws (course call) pass (suc (steps_in (turning nodes table n))) 1 []
    (start_given entry given world) (at_first call laws pass files) (omega arith)
