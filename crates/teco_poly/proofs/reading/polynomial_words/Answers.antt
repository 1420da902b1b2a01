use Rattle.teco_poly.specs.Front.{is_of_polynomial}
use Rattle.teco_poly.proofs.Fronts.{ends_polynomial, split_front}
use Rattle.teco_poly.proofs.reading.polynomial_words.Goals as goal

pub returns-clause-text : goal.returns-clause-text
returns-clause-text c = λ words rest each ends e.
    split_front is_of_polynomial words rest each (ends_polynomial rest ends) c.args.text.now e c.polynomial_count.result
    c.split_at.result.0.now c.split_at.result.1.now c.polynomial_count.ensures.count c.split_at.ensures.front
    c.split_at.ensures.back
