use Rattle.std.specs.Prelude.{◌≡◌, ℕ, List, nat_le, Result, Ok, Err}
use Rattle.teco_base.specs.declared.code.Code.{Code}
use Rattle.teco_lex.specs.declared.reader.Modifiers.{Modifiers}
use Rattle.teco_model.specs.declared.head.Head.{Head}
use Rattle.teco_model.specs.Element.{modifiers_refused, colons_in, ats_in}

-- the modifiers are judged, and those that are allowed are counted
abbrev pub Judges : Head → List ℕ → Result Modifiers Code → Type 0
Judges head modifiers (Ok m) =
    (modifiers_refused head modifiers ≡ Ok tt) × (m.colons ≡ colons_in modifiers)
    × (m.at ≡ nat_le 1 (ats_in modifiers))
Judges head modifiers (Err c) = modifiers_refused head modifiers ≡ Err c
