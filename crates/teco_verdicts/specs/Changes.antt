-- The object of JSON that says what a macro can change.
use Rattle.std.specs.Prelude.{◌≡◌, ℕ, List, [], ◌∷◌, codes, Some, option_map}
use Rattle.teco_change_policies.specs.declared.facts.Facts.{Facts}
use Rattle.teco_json.specs.Json.{byte_or_null, object_text, stated, text_or_null, truth_text}
use Rattle.teco_promise.specs.Promise.{Promise}
use Rattle.teco_told.specs.Facts.{HoldOf}
use Rattle.teco_verdicts.specs.Json.{items, name_in}

-- what is known of each text that a macro leaves; false and null say nothing
abbrev pub facts_text : ℕ → Facts → List ℕ
facts_text entry facts = object_text (
    stated (codes "macro") (byte_or_null (name_in (Some entry)))
    ∷ stated (codes "adds_nothing") (truth_text facts.adds_nothing)
    ∷ stated (codes "takes_nothing") (truth_text facts.takes_nothing)
    ∷ stated (codes "keeps_line_ends") (truth_text facts.keeps_line_ends)
    ∷ stated (codes "keeps_lines") (truth_text facts.keeps_lines)
    ∷ stated (codes "puts_only") (text_or_null (option_map items facts.puts_only))
    ∷ stated (codes "takes_only") (text_or_null (option_map items facts.takes_only))
    ∷ stated (codes "changes_only_with") (text_or_null (option_map items facts.changes_only_with))
    ∷ [])

-- It states facts that hold of the macro of a promise.
pub record IsChangesObject (promise : Promise) (text : List ℕ) : Type 0 where
  pub facts : Facts
  pub hold : HoldOf promise facts
  pub spelled : text ≡ facts_text promise.entry facts
