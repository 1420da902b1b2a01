-- What is told of a macro: the nodes of its expansion, what is known at them, and whether it is accepted.
use Rattle.std.specs.Prelude.{◌≡◌, ℕ, IfOk, List, Option, Some, None, Result, Ok, Err}
use Rattle.std.specs.Borrow.{Bor}
use Rattle.std.specs.Option.{option_and_then}
use Rattle.teco_model.specs.Macros.{ArgumentRange}
use Rattle.teco_verifier.specs.certificate.Fields.{Fields, Finding}
use Rattle.teco_verifier.specs.table.Loops.{loops_of}
use Rattle.teco_verifier.specs.expansion.Node.{Node, numbered}
use Rattle.teco_verifier.specs.expansion.Refusal as expanding
use Rattle.teco_library.specs.Library.{LibraryFile, argument_of}
use Rattle.teco_verifier.specs.table.Printed.{needs_in, IsPrinted}
use Rattle.teco_verifier.specs.table.Table.{Table}
use Rattle.teco_verify.specs.declared.refusal.Refusal.{Refusal}

-- Where there is no expansion there are no nodes. Where it is refused at a node, that is its number.
pub record Telling : Type 0 where
  pub nodes : Option (List Node)
  pub table : Table
  pub verdict : Result Finding Refusal
  pub stop : Option ℕ

-- What is known at the nodes is a table that is closed for the argument, and the certificate's numbers, needs and
-- choices are those of that table: so what it says at a node holds wherever a run comes there.
pub record Tells (argument : Option ArgumentRange) (nodes : List Node) (fields : Fields) (table : Table) : Type 0 where
  pub printed : IsPrinted argument nodes table fields.commands fields.size
  pub needs_are : fields.needs ≡ needs_in nodes table
  pub loops_are : fields.loops ≡ loops_of nodes table

-- The table is that of the nodes, where it is accepted.
abbrev pub AcceptedIsTold : LibraryFile → ℕ → Telling → Type 0
AcceptedIsTold library entry telling =
    (nodes : List Node) → telling.nodes ≡ Some nodes
    → IfOk telling.verdict
    (λ (found : Finding). Tells (argument_of library entry) nodes found.fields telling.table)

-- what is shown of a verdict
abbrev pub IsVerdict : Result Finding Refusal → Result (Bor Finding) Refusal → Type 0
IsVerdict verdict (Ok found) = verdict ≡ Ok found.now
IsVerdict verdict (Err why) = verdict ≡ Err why

-- the nodes of an expansion, if there is one
abbrev pub expanded : Result (List Node) expanding.Refusal → Option (List Node)
expanded (Ok nodes) = Some nodes
expanded (Err why) = None

-- the node of a number, if there is one
abbrev pub node_in : Option (List Node) → ℕ → Option Node
node_in nodes number = option_and_then (λ (those : List Node). numbered those number) nodes
