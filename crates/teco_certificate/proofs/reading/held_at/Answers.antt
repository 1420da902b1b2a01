use Rattle.teco_certificate.proofs.Prelude.{◌++◌, refl, append_assoc, sym, ◌∙◌, codes, text}
use Rattle.teco_poly.proofs.Fronts.{polynomial_passes, passes_append}
use Rattle.teco_certificate.proofs.Spelling.{without_space}
use Rattle.teco_certificate.proofs.reading.held_at.Goals as goal

pub returns-clause-text : goal.returns-clause-text
returns-clause-text c = λ p rest is ends e.
    let split = c.polynomial_words.ensures.text (text p ++ codes " ") rest
    (passes_append (text p) (codes " ") (polynomial_passes p is) refl) ends
    (e ∙ sym (append_assoc (text p) (codes " ") rest)) in (
      c.polynomial.ensures p is
          (without_space c.polynomial_words.result.0.now (text p) c.strip_suffix.result c.unwrap_or.result
          c.polynomial_words.result.0 c.strip_suffix.ensures.cases c.unwrap_or.ensures split.0),
      split.1,
    )
