use Rattle.std.proofs.Common.{ℕ, List, [], ◌∷◌, codes, false, Option, refl}
use Rattle.std.specs.Fmt.{decimal}
use Rattle.std.specs.Option.{option_copied}
use Rattle.teco_json.specs.Json.{byte_or_null, number_or_null, object_text, quoted_text, stated, text_or_null}
use Rattle.teco_json.specs.Json.{truth_text}
use Rattle.teco_verdicts.proofs.Spelling.{by_six}
use Rattle.teco_verdicts.specs.declared.objects.StatedRefusal.{StatedRefusal}
use Rattle.teco_verdicts.proofs.objects.refusal_object.Goals as goal

-- the object, by the parts that calls tell
abbrev spelled : StatedRefusal → List ℕ → List ℕ → Option ℕ → Option ℕ → Option ℕ → Option ℕ → Option ℕ → Option ℕ
    → List ℕ
spelled told reason remedy name register line column end_line end_column = object_text (
    stated (codes "macro") (byte_or_null name)
    ∷ stated (codes "accepted") (truth_text false)
    ∷ stated (codes "refusal") (quoted_text reason)
    ∷ stated (codes "register") (byte_or_null register)
    ∷ stated (codes "place") (decimal told.verdict.place)
    ∷ stated (codes "line") (number_or_null line)
    ∷ stated (codes "column") (number_or_null column)
    ∷ stated (codes "end") (number_or_null told.end)
    ∷ stated (codes "end_line") (number_or_null end_line)
    ∷ stated (codes "end_column") (number_or_null end_column)
    ∷ stated (codes "message") (quoted_text told.message.now)
    ∷ stated (codes "remedy") (quoted_text remedy)
    ∷ stated (codes "witness") (text_or_null (option_copied told.witness))
    ∷ stated (codes "witness_text") (text_or_null (option_copied told.witness_text))
    ∷ [])

pub returns : goal.returns
returns c = by_six (spelled c.args.stated.now c.args.stated.now.reason.now c.args.stated.now.remedy.now)
    c.object.result _ _ _ _ _ _ _ _ _ _ _ _ c.name_in.ensures c.name_in-2.ensures c.line_in.ensures
    c.column_in.ensures c.line_in-2.ensures c.column_in-2.ensures
    (by_six (λ reason remedy name register line column. spelled c.args.stated.now reason remedy name register line
    column c.line_in-2.result c.column_in-2.result) c.object.result _ _ _ _ _ _ _ _ _ _ _ _ c.as_bytes.ensures.value
    c.as_bytes-2.ensures.value refl refl refl refl c.object.ensures)
