-- What a run of a macro with a closed table comes to on its way: each element that begins is described by what the
-- table knows there, and each iteration that is entered takes at most the turns that the table tells.
use Rattle.std.specs.Prelude.{◌≡◌, ℕ, zero, suc, ◌+◌, ◌≤◌, ◌==◌, ◌&&◌, if◌then◌else◌, List, length, Bool, true, false}
use Rattle.std.specs.Prelude.{Option, Some, None, Result, Ok, Err}
use Rattle.teco_base.specs.declared.code.Code.{Code}
use Rattle.teco_model.specs.declared.kind.Flow.TheVariants as flow
use Rattle.teco_model.specs.declared.kind.Kind.{Kind}
use Rattle.teco_model.specs.declared.kind.Kind.TheVariants as kind
use Rattle.teco_model.specs.Element.{Element, element_at}
use Rattle.teco_model.specs.Registers.{Pair}
use Rattle.teco_model.specs.Run.{Reaches}
use Rattle.teco_model.specs.State.{World, State, Next}
use Rattle.teco_model.specs.Step.{step}
use Rattle.teco_law_runs.specs.Ends.{IsBegin}
use Rattle.teco_model.specs.Macros.{Library, ArgumentRange, IsAsked}
use Rattle.teco_law_runs.specs.Linked.{AreLinked}
use Rattle.teco_verifier.specs.expansion.Node.{Node, over}
use Rattle.teco_verifier.specs.expansion.Position.{position_of}
use Rattle.teco_poly.specs.Polynomial.{Polynomial, value}
use Rattle.teco_law_runs.specs.Ready.{AreOpen, IsReady}
use Rattle.teco_law_runs.specs.Given.{start_given}
use Rattle.teco_law_tables.specs.Following.{OpenTurn, open_loops, IsDescribed}
use Rattle.teco_verifier.specs.table.Printed.{turns_at, needs_in, IsPrinted}
use Rattle.teco_verifier.specs.table.Table.{Table}

-- ---- each element that begins
-- A run stands at a node, and what the table knows there describes it; or it stands behind the call of the macro.
pub data IsKnown
    (library : Library) (entry : ℕ) (nodes : List Node) (table : Table) (n : ℕ) (below : List Pair)
    (s : State) :
    Type 0 where
  AtNode :
      (number : ℕ) (turns : List OpenTurn) → IsDescribed library nodes table n below number turns s
      → IsKnown library entry nodes table n below s
  BehindCall : (over entry).position ≡ position_of s → IsKnown library entry nodes table n below s

-- A run is known wherever an element begins, from the call on; an argument that is given is pending there already.
abbrev pub RunsAreDescribed : Type 0
RunsAreDescribed =
    (library : Library) (entry : ℕ) (argument : Option ArgumentRange) (given : Option ℕ) (nodes : List Node)
    (table : Table) (commands most : Polynomial) (n : ℕ) (world : World)
    → AreLinked library entry nodes → IsPrinted argument nodes table commands most → IsAsked argument given
    → IsReady library entry most n world → AreOpen (needs_in nodes table) world.files
    → (steps : ℕ) (s : State) → Reaches steps (start_given entry given world) s → s.left ≡ None
    → IsKnown library entry nodes table n world.kept.registers.stack s

-- ---- each iteration that is entered
-- how many iterations are open, in the texts that wait too
abbrev pub depth_of : State → ℕ
depth_of s = length (open_loops s)

-- is it a >, and is that what is read?
abbrev pub is_turn_end : Kind → Bool
is_turn_end (kind.Flow flow.EndTurn) = true
is_turn_end k = false

abbrev pub reads_turn_end : Result (Option Element) Code → Bool
reads_turn_end (Ok (Some e)) = is_turn_end e.kind
reads_turn_end (Ok None) = false
reads_turn_end (Err c) = false

abbrev pub stands_at_turn_end : State → Bool
stands_at_turn_end s = reads_turn_end (element_at s.frames.running.text s.frames.running.place)

-- A > goes back to the start of its body where the iteration, the innermost of so many, is still open behind it.
abbrev pub goes_back : ℕ → State → State → Bool
goes_back depth s t = stands_at_turn_end s && (depth_of s == depth) && (depth_of t == depth)

-- then another turn of that iteration begins
abbrev pub turns_begun : ℕ → State → State → ℕ
turns_begun depth s t = if goes_back depth s t then 1 else 0

-- Some steps, none of which leaves the iteration, begin so many turns of it.
abbrev pub BeginTurns : ℕ → ℕ → State → ℕ → Type 0
BeginTurns depth zero s count = count ≡ 0
BeginTurns depth (suc steps) s count =
    (t : State) × (later : ℕ)
    × (step s ≡ Next t) × (depth ≤ depth_of t) × BeginTurns depth steps t later
    × (count ≡ turns_begun depth s t + later)

-- A step enters an iteration: one more is open.
pub record Enters (s t : State) : Type 0 where
  pub goes : step s ≡ Next t
  pub opens : depth_of t ≡ suc (depth_of s)

-- The step is that of a <, where the table tells how many turns its iteration takes at most. Until it is left it
-- takes no more: the first begins with that step, and the others later.
pub record TakesFewTurns
    (library : Library) (nodes : List Node) (table : Table) (n : ℕ) (below : List Pair)
    (s t : State) : Type 0 where
  pub number : ℕ
  pub turns : List OpenTurn
  pub begin : IsBegin nodes number
  pub here : IsDescribed library nodes table n below number turns s
  pub most : Polynomial
  pub known : turns_at table number ≡ Ok most
  pub few : (steps later : ℕ) → BeginTurns (depth_of t) steps t later → suc later ≤ value most n

-- Each iteration that a run enters takes no more turns than the table tells.
abbrev pub IterationsAreBounded : Type 0
IterationsAreBounded =
    (library : Library) (entry : ℕ) (argument : Option ArgumentRange) (given : Option ℕ) (nodes : List Node)
    (table : Table) (commands most : Polynomial) (n : ℕ) (world : World)
    → AreLinked library entry nodes → IsPrinted argument nodes table commands most → IsAsked argument given
    → IsReady library entry most n world → AreOpen (needs_in nodes table) world.files
    → (steps : ℕ) (s t : State) → Reaches steps (start_given entry given world) s → Enters s t
    → TakesFewTurns library nodes table n world.kept.registers.stack s t
