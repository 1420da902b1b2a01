-- The object of JSON that says what came of the edit of a file.
use Rattle.std.specs.Prelude.{ℕ, List, [], ◌∷◌, codes, Bool, Option}
use Rattle.std.specs.Option.{option_copied}
use Rattle.teco_edits.specs.declared.object.Counts.{Counts}
use Rattle.teco_edits.specs.declared.object.FileReport.{FileReport}
use Rattle.teco_edits.specs.declared.outcome.EditOutcome.{EditOutcome}
use Rattle.teco_edits.specs.declared.outcome.EditOutcome.TheVariants.{Done, WouldChange, Refused, Failed}
use Rattle.teco_json.specs.Json.{stated, number_or_null, object_text, quoted_text, text_or_null, truth_text}

-- what came of a file, in a word; one that would change is done
abbrev pub outcome_word : EditOutcome → List ℕ
outcome_word Done = codes "done"
outcome_word WouldChange = codes "done"
outcome_word Refused = codes "refused"
outcome_word Failed = codes "failed"

-- what is counted and said of a file besides
pub record Remarks : Type 0 where
  pub counts : Counts
  pub diff : Option (List ℕ)
  pub said : Option (List ℕ)

-- its name, whether it changes, what came of it, what was typed over it, and remarks
abbrev pub file_object : List ℕ → Bool → EditOutcome → List ℕ → Remarks → List ℕ
file_object name changes outcome typed remarks = object_text (
    stated (codes "file") (quoted_text name)
    ∷ stated (codes "changed") (truth_text changes)
    ∷ stated (codes "outcome") (quoted_text (outcome_word outcome))
    ∷ stated (codes "pages") (number_or_null remarks.counts.pages)
    ∷ stated (codes "commands") (number_or_null remarks.counts.commands)
    ∷ stated (codes "bound") (number_or_null remarks.counts.bound)
    ∷ stated (codes "n") (number_or_null remarks.counts.n)
    ∷ stated (codes "typed") (quoted_text typed)
    ∷ stated (codes "diff") (text_or_null remarks.diff)
    ∷ stated (codes "said") (text_or_null remarks.said)
    ∷ [])

abbrev pub remarks_of : FileReport → Remarks
remarks_of report = record {
  counts = report.counts;
  diff = option_copied report.diff;
  said = option_copied report.said;
}

abbrev pub report_object : FileReport → List ℕ
report_object report =
    file_object report.name.now report.changes report.outcome report.typed.now (remarks_of report)
