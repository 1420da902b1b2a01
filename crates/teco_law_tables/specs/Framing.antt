-- What a run of a macro with a closed table leaves: registers that no element of the macro names, the search
-- mode, where none may set it, and the push-down list of its entry; and what it changes.
use Rattle.std.specs.Prelude.{ℕ, List, Option}
use Rattle.teco_law_changes.specs.Runs.{ChangesAsTold}
use Rattle.teco_law_runs.specs.Framing.{IsFramed, LiesBelow}
use Rattle.teco_law_runs.specs.Given.{call_given}
use Rattle.teco_law_runs.specs.Linked.{AreLinked}
use Rattle.teco_law_runs.specs.Ready.{AreOpen, IsReady}
use Rattle.teco_model.specs.Macros.{Library, ArgumentRange, IsAsked}
use Rattle.teco_model.specs.Run.{Ends, Reaches}
use Rattle.teco_model.specs.State.{State, World, start}
use Rattle.teco_poly.specs.Polynomial.{Polynomial}
use Rattle.teco_verifier.specs.expansion.Node.{Node}
use Rattle.teco_verifier.specs.table.Printed.{needs_in, IsPrinted}
use Rattle.teco_verifier.specs.table.Table.{Table}

-- Wherever a run comes to, what its macro does not name is as it was.
abbrev pub RunsAreFramed : Type 0
RunsAreFramed =
    (library : Library) (entry : ℕ) (argument : Option ArgumentRange) (given : Option ℕ)
    (nodes : List Node) (table : Table) (commands most : Polynomial) (n : ℕ) (world : World)
    → AreLinked library entry nodes → IsPrinted argument nodes table commands most
    → IsAsked argument given → IsReady library entry most n world → AreOpen (needs_in nodes table) world.files
    → (steps : ℕ) (s : State) → Reaches steps (start (call_given entry given) world) s
    → IsFramed nodes world.kept s.world.kept

-- At its end a run has the push-down list of its entry, and above it what it pushed and did not pop.
abbrev pub RunsLeaveBelow : Type 0
RunsLeaveBelow =
    (library : Library) (entry : ℕ) (argument : Option ArgumentRange) (given : Option ℕ)
    (nodes : List Node) (table : Table) (commands most : Polynomial) (n : ℕ) (world : World)
    → AreLinked library entry nodes → IsPrinted argument nodes table commands most
    → IsAsked argument given → IsReady library entry most n world → AreOpen (needs_in nodes table) world.files
    → (steps : ℕ) (new : World) → Ends (start (call_given entry given) world) steps new
    → LiesBelow world.kept.registers.stack new.kept.registers.stack

-- And the text is changed by what is told of the nodes.
abbrev pub RunsChangeAsTold : Type 0
RunsChangeAsTold =
    (library : Library) (entry : ℕ) (argument : Option ArgumentRange) (given : Option ℕ)
    (nodes : List Node) (table : Table) (commands most : Polynomial) (n : ℕ) (world : World)
    → AreLinked library entry nodes → IsPrinted argument nodes table commands most
    → IsAsked argument given → IsReady library entry most n world → AreOpen (needs_in nodes table) world.files
    → (steps : ℕ) (new : World) → Ends (start (call_given entry given) world) steps new
    → ChangesAsTold nodes world new
