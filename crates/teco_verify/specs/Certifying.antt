-- What a table certifies.
use Rattle.std.specs.Prelude.{◌≡◌, ◌⊎◌, ℕ, List, Result, Ok, Err, IsOk, ⊤, Option}
use Rattle.teco_verifier.specs.certificate.Fields.{Fields, Finding}
use Rattle.teco_check.specs.declared.bad.Bad.{Bad}
use Rattle.teco_check.specs.declared.bad.Bad.TheVariants as bad
use Rattle.teco_check.specs.Here.{IsNumberOf}
use Rattle.teco_verifier.specs.table.Loops.{loops_of}
use Rattle.teco_verifier.specs.expansion.Node.{Node}
use Rattle.teco_model.specs.Macros.{ArgumentRange}
use Rattle.teco_verifier.specs.table.Closed.{check}
use Rattle.teco_verifier.specs.table.Printed.{commands, size, needs_in}
use Rattle.teco_verifier.specs.table.Table.{Table}
use Rattle.teco_verify.specs.declared.certifying.CertificateFlaw.{CertificateFlaw}
use Rattle.teco_verify.specs.declared.certifying.CertificateFlaw.TheVariants as flaw

-- its argument, numbers, needs and lines
pub record AreFieldsOf (argument : Option ArgumentRange) (nodes : List Node) (table : Table) (entry : ℕ)
    (fields : Fields) : Type 0 where
  pub entry_is : fields.entry ≡ entry
  pub argument_is : fields.argument ≡ argument
  pub needs_are : fields.needs ≡ needs_in nodes table
  pub commands_are : commands argument nodes table ≡ Ok fields.commands
  pub size_is : size nodes table ≡ Ok fields.size
  pub loops_are : fields.loops ≡ loops_of nodes table

-- A printed number of a closed table overflows at the node of this number: the commands, or else the size.
pub record Overflows (argument : Option ArgumentRange) (nodes : List Node) (table : Table) (number : ℕ) : Type 0 where
  pub closed : check argument nodes table ≡ Ok tt
  pub here : (commands argument nodes table ≡ Err number)
      ⊎ (IsOk (commands argument nodes table) × (size nodes table ≡ Err number))

-- These, or the node at which it is not closed or a number overflows.
abbrev pub Certifies : Option ArgumentRange → List Node → Table → ℕ → Result Finding CertificateFlaw → Type 0
Certifies argument nodes table entry (Ok found) = AreFieldsOf argument nodes table entry found.fields
Certifies argument nodes table entry (Err (flaw.Open number)) = check argument nodes table ≡ Err number
Certifies argument nodes table entry (Err (flaw.Overflow number)) = Overflows argument nodes table number
Certifies argument nodes table entry (Err flaw.Memory) = ⊤

-- why, where it is not closed
abbrev pub flaw_by : Bad → CertificateFlaw
flaw_by (bad.Edge number) = flaw.Open number
flaw_by bad.Memory = flaw.Memory

-- there is a node of the number that is told
abbrev pub IsFlawIn : List Node → CertificateFlaw → Type 0
IsFlawIn nodes (flaw.Open number) = IsNumberOf nodes number
IsFlawIn nodes (flaw.Overflow number) = IsNumberOf nodes number
IsFlawIn nodes flaw.Memory = ⊤
