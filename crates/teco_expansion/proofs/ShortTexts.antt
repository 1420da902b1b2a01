-- The texts of an element are no longer than what it is read of.
use Rattle.teco_expansion.proofs.Prelude.{◌≡◌, ℕ, ◌≤◌, List, length, Option, Some, Result, Ok, Err, ap, ◌∙◌, arith}
use Rattle.teco_expansion.proofs.Prelude.{option_map, rules, Code, Element, seen, blank_end, element_at}
use Rattle.std.proofs.Common.{IfOk}
use Rattle.std.specs.Option.{ForSome}
use Rattle.teco_lex.specs.Reading.{Gives}
use Rattle.teco_model.specs.declared.element.Element as declared
use Rattle.teco_model.proofs.Standing.{found_read, text_within, second_within}

text_short : (text : List ℕ) (at : ℕ) (e : Element) → element_at text at ≡ Ok (Some e) → length e.text ≤ length text
text_short text at e h =
    let r = found_read text at e h in
    omega (arith, text_within text (blank_end text at) e r, r.within)

second_short : (text : List ℕ) (at : ℕ) (e : Element) → element_at text at ≡ Ok (Some e) → length e.second ≤ length text
second_short text at e h =
    let r = found_read text at e h in
    omega (arith, second_within text (blank_end text at) e r, r.within)

-- the same of what the code reads
pub found_text_short : (text : List ℕ) (at : ℕ) (r : Result (Option declared.Element) Code)
    → Gives (option_map seen) r (element_at text at)
    → IfOk r (λ found. ForSome found (λ e. length e.text.now ≤ length text))
found_text_short text at (Ok found) g =
    λ e is. text_short text at (seen e) (g ∙ ap (λ (o : Option declared.Element). Ok (option_map seen o)) is)
found_text_short text at (Err c) g = search rules

pub found_second_short : (text : List ℕ) (at : ℕ) (r : Result (Option declared.Element) Code)
    → Gives (option_map seen) r (element_at text at)
    → IfOk r (λ found. ForSome found (λ e. length e.second.now ≤ length text))
found_second_short text at (Ok found) g =
    λ e is. second_short text at (seen e) (g ∙ ap (λ (o : Option declared.Element). Ok (option_map seen o)) is)
found_second_short text at (Err c) g = search rules
