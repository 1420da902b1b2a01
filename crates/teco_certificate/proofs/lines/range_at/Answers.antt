use Rattle.teco_certificate.proofs.Prelude.{◌++◌, ◌∷◌, ◌∙◌, refl, arith, append_assoc, decimal, codes, LF}
use Rattle.teco_certificate.proofs.lines.range_at.Goals as goal

pub returns : goal.returns
returns c = λ range rest is e.
    let low = c.number_at-low.ensures.text range.low (codes " " ++ (decimal range.high ++ LF ∷ rest))
    (omega (arith, is.ordered, is.small)) refl
    (e ∙ append_assoc (decimal range.low) (codes " " ++ decimal range.high) (LF ∷ rest)) in
    let word = c.behind.ensures.word.1.there (decimal range.high ++ LF ∷ rest) low.1 in
    let high = c.number_at-high.ensures.text range.high (LF ∷ rest) (omega (arith, is.small)) refl word.1 in
    (c.range_of.ensures range is low.0 high.0, (c.behind-2.ensures.word.1.there rest high.1).1)
