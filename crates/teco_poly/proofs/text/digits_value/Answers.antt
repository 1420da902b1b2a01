use Rattle.teco_poly.proofs.Prelude.{arith}
use Rattle.teco_poly.proofs.Digits.{product_larger, sum_larger, read_all, digit_bounds}
use Rattle.teco_poly.proofs.text.digits_value.Goals as goal

pub overflow_sub-digit : goal.overflow_sub-digit
overflow_sub-digit c = (digit_bounds c.args.digits.now c.loop-digit.digit-index c.requires (omega arith)).0

pub returns : goal.returns
returns c =
    let is = read_all c.args.digits.now c.loop-digit.number c.loop-digit.digit-index
    (omega arith) c.requires c.loop-digit.invariant.whole in
    (omega (arith, is), is)

pub returns-in_err-checked_mul : goal.returns-in_err-checked_mul
returns-in_err-checked_mul c =
    rw c.from_residual.ensures
    (product_larger c.args.digits.now c.loop-digit.number c.loop-digit.digit-index
    (omega arith) c.loop-digit.invariant.whole c.requires c.in_err-checked_mul.ensures)

pub returns-in_err-number : goal.returns-in_err-number
returns-in_err-number c =
    rw c.from_residual-in_err-number.ensures
    (sum_larger c.args.digits.now c.loop-digit.number c.loop-digit.digit-index
    (omega arith) c.loop-digit.invariant.whole c.requires
    c.in_ok-checked_mul.field-0 c.from.result c.in_ok-checked_mul.ensures.1 c.from.ensures c.in_err-number.ensures)
