-- A, P, PW and Y.
use Rattle.std.specs.Prelude.{pos, int_le, Option, Some, None, Result, Ok, Err, if◌then◌else◌}
use Rattle.teco_model.specs.declared.kind.Page.{Page}
use Rattle.teco_model.specs.declared.kind.Page.TheVariants as page
use Rattle.teco_verifier.specs.declared.values.Value.{Value}
use Rattle.teco_verifier.specs.declared.values.Interval.{Interval}
use Rattle.teco_verifier.specs.declared.refusal.RefusalReason.{RefusalReason}
use Rattle.teco_verifier.specs.declared.refusal.RefusalReason.TheVariants as refusal
use Rattle.teco_verifier.specs.facts.Arguments.{KnownTaken}
use Rattle.teco_verifier.specs.facts.Attempt.{◌>>=◌}
use Rattle.teco_verifier.specs.facts.Facts.{Facts, nowhere}
use Rattle.teco_verifier.specs.facts.Motions.{count_of}
use Rattle.teco_verifier.specs.facts.Queries.{character}
use Rattle.teco_verifier.specs.facts.Shifts.{moving, ending, Foreseen, silent, answering, silent_behind}
use Rattle.teco_verifier.specs.facts.Typings.{part_named}

-- there is one page at least
abbrev pub some_pages : Interval → Result (Unit {0}) RefusalReason
some_pages n = if int_le (pos 1) n.lo then Ok tt else Err refusal.Argument

-- nA is the code of a character; A adds a page behind the buffer, where nothing is known to be
abbrev pub append : Option Value → Facts → Result Foreseen RefusalReason
append None facts = silent_behind (moving facts.position.distances (Some (pos 0))) facts
append (Some n) facts = Ok (answering character facts)

-- nP goes to the begin of another page, where nothing is saved, and m,nP writes a part
abbrev pub turning : Option Value → Option Value → Facts → Result Foreseen RefusalReason
turning (Some m) (Some n) facts = do
  named ← part_named (Some m) (Some n) facts.position.distances
  Ok (silent facts)
turning first n facts = do
  some ← some_pages (count_of n facts.position.distances)
  silent_behind (ending (moving nowhere (Some (pos 0)))) facts

-- nPW and m,nPW write
abbrev pub writing : Option Value → Option Value → Facts → Result Foreseen RefusalReason
writing (Some m) (Some n) facts = do
  named ← part_named (Some m) (Some n) facts.position.distances
  Ok (silent facts)
writing first n facts = do
  some ← some_pages (count_of n facts.position.distances)
  Ok (silent facts)

abbrev pub pages : Page → KnownTaken → Facts → Result Foreseen RefusalReason
pages page.Append taken facts = append taken.value facts
pages page.Next taken facts = turning taken.first taken.value facts
pages page.Write taken facts = writing taken.first taken.value facts
pages page.Yank taken facts = Err refusal.Unverified
