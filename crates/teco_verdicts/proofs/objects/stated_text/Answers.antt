use Rattle.std.proofs.Common.{ℕ, List, [], ◌∷◌, codes, true, Option, Some}
use Rattle.teco_json.specs.Json.{array_or_null, array_text, byte_or_null, number_or_null, object_text, stated}
use Rattle.teco_json.specs.Json.{truth_text}
use Rattle.teco_verdicts.proofs.Spelling.{by_six}
use Rattle.teco_verdicts.specs.declared.objects.Stated.{Stated}
use Rattle.teco_verdicts.proofs.objects.stated_text.Goals as goal

-- the object, by the parts that calls tell
abbrev spelled : Stated → ℕ → List ℕ → List ℕ → Option (List ℕ) → Option (List ℕ) → Option (List ℕ) → List ℕ
spelled told name commands size grows types argument = object_text (
    stated (codes "macro") (byte_or_null (Some name))
    ∷ stated (codes "accepted") (truth_text true)
    ∷ stated (codes "commands") (array_text commands)
    ∷ stated (codes "size") (array_text size)
    ∷ stated (codes "grows") (array_or_null grows)
    ∷ stated (codes "types") (array_or_null types)
    ∷ stated (codes "needs_input") (truth_text told.needs_input)
    ∷ stated (codes "needs_output") (truth_text told.needs_output)
    ∷ stated (codes "greatest_n") (number_or_null told.greatest)
    ∷ stated (codes "argument") (array_or_null argument)
    ∷ [])

pub returns : goal.returns
returns c = by_six (spelled c.args.stated.now) c.object.result _ _ _ _ _ _ _ _ _ _ _ _ c.name.ensures
    c.deref.ensures.value c.deref-2.ensures.value c.numbers_in.ensures c.numbers_in-2.ensures
    c.numbers_in-3.ensures c.object.ensures
