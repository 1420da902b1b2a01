use Rattle.teco_poly.proofs.Prelude.{arith, ◌∙◌}
use Rattle.teco_poly.proofs.Arrays.{all_filled, products_filled, products_unfit}
use Rattle.teco_poly.proofs.coefficients.scaled.Goals as goal

pub returns-in_err-products : goal.returns-in_err-products
returns-in_err-products c =
    c.from_residual.ensures ∙ products_unfit c.args.factor c.args.coefficients.now c.loop-power.power
    c.in_err-products.ensures

pub returns : goal.returns
returns c =
    products_filled c.args.coefficients.now c.args.coefficients.now c.loop-power.products c.told-coefficients
    c.told-coefficients
    c.args.factor (all_filled _ _ _ c.loop-power.invariant (omega arith))
