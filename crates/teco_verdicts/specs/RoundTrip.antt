-- What `verify` prints by a table `check` does not refuse.
use Rattle.std.specs.Prelude.{ℕ, List}
use Rattle.teco_library.specs.Library.{LibraryFile}
use Rattle.teco_verdicts.specs.Answers.{ChecksByTable, VerdictByTable}
use Rattle.teco_console.specs.declared.outcome.Outcome.TheVariants.{Done, Refused}

-- The certificate that is printed of an entry is not refused.
abbrev pub PrintedIsAccepted : Type 0
PrintedIsAccepted =
    (library : LibraryFile) (entry : ℕ) (text line : List ℕ)
    → VerdictByTable library entry Done text → ¬ ChecksByTable text library entry Refused line
