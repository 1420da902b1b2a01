use Rattle.teco_claims.proofs.Prelude.{is_ascii_digit, decimal}
use Rattle.teco_claims.proofs.Parts.{wide_digits}
use Rattle.teco_poly.proofs.Fronts.{ends_number, split_front}
use Rattle.teco_claims.proofs.reading.number_at.Goals as goal

pub returns-clause-text : goal.returns-clause-text
returns-clause-text c = λ n rest small ends e.
    let split =
    split_front is_ascii_digit (decimal n) rest (wide_digits n small) (ends_number rest ends) c.args.text.now e
    c.digit_count.result
    c.split_at.result.0.now c.split_at.result.1.now c.digit_count.ensures.count c.split_at.ensures.front
    c.split_at.ensures.back in
    (c.number.ensures n small split.0, split.1)
