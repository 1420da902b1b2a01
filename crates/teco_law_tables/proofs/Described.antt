-- Where an element begins on a run of a macro, it is described; or the run is over.
use Rattle.teco_law_tables.proofs.Prelude.{◌≡◌, ◌⊎◌, inl, inr, ℕ, zero, suc, ◌+◌, ◌-◌, ◌≤◌, ◌<◌, sym, ap, ◌∙◌, subst}
use Rattle.teco_law_tables.proofs.Prelude.{arith, List, [], Option, Some, None, cases_order, OpenTurn, run_at}
use Rattle.teco_law_tables.proofs.Prelude.{LiesBelow, Reaches, run, go_on, World, State, Next, End, step, IterationsEnd}
use Rattle.teco_law_tables.proofs.Prelude.{Library, ArgumentRange, IsAsked, AreLinked, Node, over, position_of}
use Rattle.teco_law_tables.proofs.Prelude.{Polynomial, reaches_more, AreOpen, ElementsPass, start_given, MovesOn}
use Rattle.teco_law_tables.proofs.Prelude.{ComesOn, Over, On, Table, needs_in, IsPrinted, IsReady, left_by}
use Rattle.teco_law_tables.proofs.Prelude.{reaches_later, reaches_none}
use Rattle.teco_law_tables.specs.Bounded.{IsKnown, AtNode, BehindCall, RunsAreDescribed}
use Rattle.teco_law_tables.proofs.Ending as ending
use Rattle.teco_law_tables.proofs.Ending.{Course, ClosedCall, course}
use Rattle.teco_law_tables.proofs.Verifying as verifying
use Rattle.teco_law_tables.proofs.Underway.{Goes, ElementsGo, elements_pass}
use Rattle.teco_law_tables.proofs.Stacking.{below_along, lies_below}

-- ---- no state comes behind the end
ended : (s : State) (world : World) (k : ℕ) → step s ≡ End world → run (suc k) s ≡ End world
unfolding run
ended s world zero e = e
ended s world (suc k) e = ap go_on (ended s world k e)

pub not_ended : (s u : State) (world : World) (k : ℕ) → step s ≡ End world → Reaches (suc k) s u → ⊥
not_ended s u world k e came = let z : End world ≡ Next u = sym (ended s world k e) ∙ came in absurd (cc)

module _ (laws : ending.Laws) (c : Course) (go : ElementsGo c.library c.entry c.nodes c.table c.n c.below c.first) where
  open c use {library, entry, nodes, table, n, below, first, zeroth, are, passes, begins}

  abbrev pub pass : ElementsPass library entry nodes table n below first
  pass = elements_pass library entry nodes table n below first go

  abbrev pub At : ℕ → List OpenTurn → State → Type 0
  At number turns s = ending.At laws c pass number turns s

  -- where an element begins, in its midst, or behind the call
  pub data Comes (s : State) : Type 0 where
    Here : (number : ℕ) (turns : List OpenTurn) → At number turns s → Comes s
    Within :
        (number : ℕ) (turns : List OpenTurn) (begun : State) (at : At number turns begun)
        (g : Goes library entry nodes table n below number turns begun at.here) (k : ℕ)
        → suc k ≤ g.passes.before → Reaches (suc k) begun s → Comes s
    Behind : (over entry).position ≡ position_of s → LiesBelow below s.world.kept.registers.stack → Comes s

  -- where the element ends
  pub goes_on : (number : ℕ) (turns : List OpenTurn) (s : State) (at : At number turns s)
      (g : Goes library entry nodes table n below number turns s at.here)
      → ComesOn library entry nodes table n below number at.here.node turns s g.passes.goes.target g.passes.next
  goes_on number turns s at g = laws.moves library entry nodes table n below number turns s g.passes.last g.passes.next
      are passes at.here g.passes.again g.passes.goes g.passes.comes g.passes.loaded g.passes.whole

  pub on_there : (number : ℕ) (turns : List OpenTurn) (s : State) (at : At number turns s)
      (g : Goes library entry nodes table n below number turns s at.here)
      (m : MovesOn library nodes table n below number at.here.node turns s g.passes.goes.target g.passes.next)
      → At g.passes.goes.target m.later g.passes.next
  on_there number turns s at g m = ending.on_there laws c pass number turns s at g.passes m

  module _ (number : ℕ) (turns : List OpenTurn) (s : State) (at : At number turns s)
      (g : Goes library entry nodes table n below number turns s at.here) (k : ℕ) (u : State)
      (came : Reaches (suc k) s u) where
    reached_next : Reaches (suc g.passes.before) s g.passes.next
    reached_next = reaches_more g.passes.before s g.passes.last g.passes.next g.passes.reaches g.passes.steps

    later : g.passes.before ≤ k → Reaches (k - g.passes.before) g.passes.next u
    later more = reaches_later (suc g.passes.before) (k - g.passes.before) s g.passes.next u reached_next
        (let e : suc k ≡ suc g.passes.before + (k - g.passes.before) = omega (arith, more) in
        subst (λ k. Reaches k s u) e came)

    next_above : LiesBelow below g.passes.next.world.kept.registers.stack
    next_above =
        subst (λ below. LiesBelow below g.passes.next.world.kept.registers.stack)
        (below_along at.here.node.element g.passes.goes.way (left_by nodes at.here.node) s.world
        (run_at n below turns))
        (lies_below _ _ _ _ g.passes.comes.described.state.pushed)

    behind : (m : ℕ) → (over entry).position ≡ position_of g.passes.next → Reaches m g.passes.next u → Comes u
    behind zero o came =
        let same = reaches_none g.passes.next u came in
        Behind (subst (λ (s : State). (over entry).position ≡ position_of s) same o)
        (subst (λ (s : State). LiesBelow below s.world.kept.registers.stack) same next_above)
    behind (suc m) o came =
        absurd (not_ended g.passes.next u g.passes.next.world m (laws.over entry g.passes.next o) came)

    abbrev Onward : Type 0
    Onward = (m : MovesOn library nodes table n below number at.here.node turns s g.passes.goes.target g.passes.next)
        → Reaches (k - g.passes.before) g.passes.next u → Comes u

    onward : Onward → g.passes.before ≤ k
        → ComesOn library entry nodes table n below number at.here.node turns s g.passes.goes.target g.passes.next
        → Comes u
    onward on more (Over o) = behind (k - g.passes.before) o (later more)
    onward on more (On m) = on m (later more)

    by_order : Onward → (suc k ≡ suc g.passes.before) ⊎ ((suc k < suc g.passes.before) ⊎ (suc g.passes.before < suc k))
        → Comes u
    by_order on (inl e) = onward on (omega (arith, e)) (goes_on number turns s at g)
    by_order on (inr (inl less)) = Within number turns s at g k (omega (arith, less)) came
    by_order on (inr (inr more)) = onward on (omega (arith, more)) (goes_on number turns s at g)

    by_goes : Onward → Comes u
    by_goes on = by_order on (cases_order (suc k) (suc g.passes.before))

  pub comes : (fuel k : ℕ) (number : ℕ) (turns : List OpenTurn) (s u : State) → At number turns s → k < fuel
      → Reaches k s u → Comes u
  comes zero k number turns s u at l came = absurd (omega (arith, l))
  comes (suc fuel) zero number turns s u at l came =
      Here number turns (subst (At number turns) (reaches_none s u came) at)
  comes (suc fuel) (suc k) number turns s u at l came =
      by (go number turns at.total s at.reached at.here at.files)
      (λ g. by_goes number turns s at g k u came
      (λ m later. comes fuel (k - g.passes.before) g.passes.goes.target m.later g.passes.next u
      (on_there number turns s at g m) (omega (arith, l)) later))
    where
      by : (step s ≡ End s.world) ⊎ Goes library entry nodes table n below number turns s at.here
          → (Goes library entry nodes table n below number turns s at.here → Comes u) → Comes u
      by (inl e) on = absurd (not_ended s u s.world k e came)
      by (inr g) on = on g

  known_by : (s : State) → s.left ≡ None → Comes s → IsKnown library entry nodes table n below s
  known_by s none (Here number turns at) = AtNode number turns at.here
  known_by s none (Within number turns begun at g k l came) =
      let amid = g.amid (suc k) s (omega arith) l came in
      let z : Some amid.n ≡ None = sym amid.left ∙ none in absurd (cc)
  known_by s none (Behind o above) = BehindCall o

  pub known : (k number : ℕ) (turns : List OpenTurn) (s u : State) → At number turns s → Reaches k s u → u.left ≡ None
      → IsKnown library entry nodes table n below u
  known k number turns s u at came none = known_by u none (comes (suc k) k number turns s u at (omega arith) came)

-- ---- the run of a macro that is accepted
abbrev pub ready_call : (library : Library) (entry : ℕ) (argument : Option ArgumentRange)
    (given : Option ℕ) (nodes : List Node) (table : Table) (commands most : Polynomial) (n : ℕ) (world : World) →
    AreLinked library entry nodes → IsPrinted argument nodes table commands most
    → IsAsked argument given → IsReady library entry most n world → ClosedCall
ready_call library entry argument given nodes table commands most n world are printed asked ready =
    record {
      library = library;
      entry = entry;
      argument = argument;
      given = given;
      nodes = nodes;
      table = table;
      n = n;
      world = world;
      are = are;
      passes = printed.closed;
      asked = asked;
      loaded = ready.loaded;
      whole = ready.whole.kept;
      entering = ready.begins;
    }

module _ (laws : ending.Laws) (call : ClosedCall)
    (go : ElementsGo call.library call.entry call.nodes call.table call.n call.world.kept.registers.stack
    (start_given call.entry call.given call.world)) (files : AreOpen (needs_in call.nodes call.table) call.world.files)
  where
    pub at_first : At laws (course call) go 1 [] (course call).first
    at_first = ending.at_first call laws (pass laws (course call) go) files

    pub known_there : (steps : ℕ) (s : State) → Reaches steps (course call).first s → s.left ≡ None
        → IsKnown call.library call.entry call.nodes call.table call.n call.world.kept.registers.stack s
    known_there steps s came none = known laws (course call) go steps 1 [] (course call).first s at_first came none

pub runs_are_described : ending.Laws → verifying.Laws → IterationsEnd → RunsAreDescribed
runs_are_described laws sound ends library entry argument given nodes table commands most n world are printed
    asked ready files =
    known_there laws (ready_call library entry argument given nodes table commands most n world are printed asked
    ready) (verifying.elements_go sound ends library entry argument given nodes table commands most n world
    are printed asked ready) files
