use Rattle.teco_poly.specs.Text.{text}
use Rattle.teco_poly.proofs.Fronts.{polynomial_passes}
use Rattle.teco_poly.proofs.reading.polynomial_at.Goals as goal

pub returns-clause-text : goal.returns-clause-text
returns-clause-text c = λ p rest is ends e.
    let split = c.polynomial_words.ensures.text (text p) rest (polynomial_passes p is) ends e in
    (c.polynomial.ensures p is split.0, split.1)
