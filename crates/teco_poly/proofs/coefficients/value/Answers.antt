use Rattle.teco_poly.proofs.Prelude.{arith, ap, ◌-◌, ◌∙◌, value}
use Rattle.teco_poly.proofs.Products.{value_begun, value_more, product_too_large, sum_too_large, at_some, all_left}
use Rattle.teco_poly.proofs.coefficients.value.Goals as goal

pub loop-power-init : goal.loop-power-init
loop-power-init c = (value_begun c.args.coefficients.now c.args.n c.told-coefficients, omega arith)

pub loop-power-preserved : goal.loop-power-preserved
loop-power-preserved c = (
  value_more c.args.coefficients.now c.args.n c.loop-power.value c.loop-power.power (c.loop-power.power - 1)
      (omega arith) (omega arith) c.loop-power.invariant.0 c.in_ok-value.value c.in_ok-checked_mul.field-0
      c.in_ok-checked_mul.ensures.1 c.in_ok-value.ensures.1,
  omega arith,
)

pub returns : goal.returns
returns c =
    at_some c.args.coefficients.now c.args.n c.loop-power.value c.loop-power.invariant.1
    (c.loop-power.invariant.0 ∙ ap (λ p. value p c.args.n)
    (all_left c.loop-power.power c.args.coefficients.now c.loop-power-test.false))

pub returns-in_err-checked_mul : goal.returns-in_err-checked_mul
returns-in_err-checked_mul c =
    c.from_residual.ensures
    ∙ product_too_large c.args.coefficients.now c.args.n c.loop-power.value c.loop-power.power (c.loop-power.power - 1)
    (omega arith) (omega arith) c.loop-power.invariant.0 (c.fits-coefficients (c.loop-power.power - 1))
    c.in_err-checked_mul.ensures

pub returns-in_err-value : goal.returns-in_err-value
returns-in_err-value c =
    c.from_residual-in_err-value.ensures
    ∙ sum_too_large c.args.coefficients.now c.args.n c.loop-power.value c.loop-power.power (c.loop-power.power - 1)
    (omega arith) (omega arith) c.loop-power.invariant.0 c.in_ok-checked_mul.field-0 c.in_ok-checked_mul.ensures.1
    (c.fits-coefficients (c.loop-power.power - 1)) c.in_err-value.ensures
