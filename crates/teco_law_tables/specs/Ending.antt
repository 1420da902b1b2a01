-- A run of a macro, with a closed table, ends without a code within the number of steps that the table tells.
use Rattle.std.specs.Prelude.{◌≡◌, ◌⊎◌, ℕ, suc, ◌≤◌, List, Option, Ok}
use Rattle.teco_law_turns.specs.Table.{commands as steps_in}
use Rattle.teco_model.specs.Registers.{Pair}
use Rattle.teco_model.specs.Run.{Reaches}
use Rattle.teco_model.specs.State.{World, State, Next, End}
use Rattle.teco_model.specs.Step.{step}
use Rattle.teco_model.specs.Macros.{Library, IsLoaded, ArgumentRange, IsAsked}
use Rattle.teco_law_runs.specs.Linked.{AreLinked}
use Rattle.teco_verifier.specs.expansion.Node.{Node, stands}
use Rattle.teco_law_runs.specs.Run.{GoesTo}
use Rattle.teco_law_facts.specs.Describes.{IsWhole}
use Rattle.teco_law_runs.specs.Ending.{EndsWithin}
use Rattle.teco_law_runs.specs.Given.{start_given}
use Rattle.teco_law_runs.specs.Ready.{IsEntry, AreOpen}
use Rattle.teco_model.specs.Paging.{unread_of}
use Rattle.teco_verifier.specs.table.Closed.{check}
use Rattle.teco_law_tables.specs.Following.{OpenTurn, run_at, IsDescribed}
use Rattle.teco_law_tables.specs.Moving.{IsLast, Comes}
use Rattle.teco_verifier.specs.table.Printed.{steps_of, needs_in}
use Rattle.teco_law_runs.specs.Staying.{NoFileCommands}
use Rattle.teco_verifier.specs.table.Table.{Table}
use Rattle.teco_law_tables.specs.Turning.{value_of, turning}

-- An element that begins where a run is described takes no more steps than are known, without a code, and none of them
-- a command of files; the last goes along a way, to a state that the facts on it describe, and leaves open the files
-- that the nodes need.
pub record Passes
    (library : Library) (entry : ℕ) (nodes : List Node) (table : Table) (n : ℕ) (below : List Pair)
    (number : ℕ)
    (turns : List OpenTurn) (s : State) (here : IsDescribed library nodes table n below number turns s) :
    Type 0 where
  pub before : ℕ
  pub last : State
  pub next : State
  pub reaches : Reaches before s last
  pub steps : step last ≡ Next next
  pub few : suc before ≤ value_of n (steps_of here.node.element here.facts)
  pub none : NoFileCommands s (suc before)
  pub again : IsLast here.node.element s last
  pub goes : GoesTo (stands nodes entry) number here.node last next
  pub comes : Comes nodes here.node here.facts goes.way (run_at n below turns) s next
  pub loaded : IsLoaded library next.world.kept
  pub whole : IsWhole next.world.kept
  pub files : AreOpen (needs_in nodes table) next.world.files

-- each element that a run comes to with those files open passes, or the run ends there
abbrev pub ElementsPass : Library → ℕ → List Node → Table → ℕ → List Pair → State → Type 0
ElementsPass library entry nodes table n below first =
    (number : ℕ) (turns : List OpenTurn) (steps : ℕ) (s : State) → Reaches steps first s
    → (here : IsDescribed library nodes table n below number turns s)
    → AreOpen (needs_in nodes table) s.world.files
    → (step s ≡ End s.world) ⊎ Passes library entry nodes table n below number turns s here

abbrev pub RunsEndInTime : Type 0
RunsEndInTime =
    (library : Library) (entry : ℕ) (argument : Option ArgumentRange) (given : Option ℕ) (nodes : List Node)
    (table : Table) (n : ℕ) (world : World)
    → AreLinked library entry nodes → check argument nodes table ≡ Ok tt → IsAsked argument given
    → IsLoaded library world.kept → IsWhole world.kept → IsEntry n (unread_of world) world.kept
    → AreOpen (needs_in nodes table) world.files
    → ElementsPass library entry nodes table n world.kept.registers.stack (start_given entry given world)
    → EndsWithin (start_given entry given world) (steps_in (turning nodes table n))
