use Rattle.teco_parameters.proofs.Spelt.{by_digits}
use Rattle.teco_parameters.proofs.spelling.behind_x.Goals as goal

pub returns : goal.returns
returns c =
    by_digits c.args.text.now c.in_ok-high.rest.now c.in_ok-low.behind.now c.in_ok-high.high c.in_ok-low.low
    c.in_ok-byte_of_digits.field-0 c.in_ok-high.ensures c.in_ok-low.ensures c.in_ok-byte_of_digits.ensures
