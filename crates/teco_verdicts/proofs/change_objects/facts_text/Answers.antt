use Rattle.std.proofs.Common.{ℕ, List, [], ◌∷◌, codes, Option, Some}
use Rattle.teco_change_policies.specs.declared.facts.Facts.{Facts}
use Rattle.teco_json.specs.Json.{byte_or_null, object_text, stated, text_or_null, truth_text}
use Rattle.teco_verdicts.proofs.Spelling.{by_four}
use Rattle.teco_verdicts.proofs.change_objects.facts_text.Goals as goal

-- the object, by the parts that calls tell
abbrev spelled : Facts → ℕ → Option (List ℕ) → Option (List ℕ) → Option (List ℕ) → List ℕ
spelled facts name puts takes with = object_text (
    stated (codes "macro") (byte_or_null (Some name))
    ∷ stated (codes "adds_nothing") (truth_text facts.adds_nothing)
    ∷ stated (codes "takes_nothing") (truth_text facts.takes_nothing)
    ∷ stated (codes "keeps_line_ends") (truth_text facts.keeps_line_ends)
    ∷ stated (codes "keeps_lines") (truth_text facts.keeps_lines)
    ∷ stated (codes "puts_only") (text_or_null puts)
    ∷ stated (codes "takes_only") (text_or_null takes)
    ∷ stated (codes "changes_only_with") (text_or_null with)
    ∷ [])

pub returns : goal.returns
returns c = by_four (spelled c.args.facts.now) c.object.result _ _ _ _ _ _ _ _ c.name.ensures c.bytes_in.ensures
    c.bytes_in-2.ensures c.bytes_in-3.ensures c.object.ensures
