use Rattle.teco_poly.proofs.Front.{number_digits, number_refused, number_read}
use Rattle.teco_poly.proofs.text.number_at.Goals as goal

pub number-requires : goal.number-requires
number-requires c = number_digits c.args.text.now c.split_at.result.0.now c.digit_count.result
    c.digit_count.ensures.count c.split_at.ensures.front

pub returns-in_err-number-clause-none : goal.returns-in_err-number-clause-none
returns-in_err-number-clause-none c =
    rw c.from_residual.ensures
    (number_refused c.args.text.now c.split_at.result.0.now c.split_at.result.1.now c.digit_count.result
    c.digit_count.ensures.count
    c.split_at.ensures.front c.split_at.ensures.back c.in_err-number.ensures.none)

pub returns-clause-found : goal.returns-clause-found
returns-clause-found c =
    number_read c.args.text.now c.split_at.result.0.now c.split_at.result.1.now c.in_ok-number.number
    c.digit_count.result c.digit_count.ensures.count
    c.split_at.ensures.front c.split_at.ensures.back c.in_ok-number.ensures.found.0 c.in_ok-number.ensures.found.1
