use Rattle.teco_poly.proofs.Prelude.{arith, ap, ◌-◌, ◌∙◌, product, fitted}
use Rattle.teco_poly.proofs.Products.{product_begun, product_more, product_unfit, all_left}
use Rattle.teco_poly.proofs.coefficients.product.Goals as goal

pub loop-power-init : goal.loop-power-init
loop-power-init c = product_begun c.args.left.now c.args.right.now c.told-left

pub loop-power-preserved : goal.loop-power-preserved
loop-power-preserved c =
    product_more c.args.left.now c.args.right.now c.loop-power.product c.loop-power.power (c.loop-power.power - 1)
    (omega arith) (omega arith) c.loop-power.invariant c.in_ok-product.product c.in_ok-product.ensures

pub returns : goal.returns
returns c =
    c.loop-power.invariant
    ∙ ap (λ p. fitted (product p c.args.right.now))
    (all_left c.loop-power.power c.args.left.now c.loop-power-test.false)

pub returns-in_err-product : goal.returns-in_err-product
returns-in_err-product c =
    c.from_residual.ensures
    ∙ product_unfit c.args.left.now c.args.right.now c.loop-power.product c.loop-power.power (c.loop-power.power - 1)
    (omega arith) (omega arith) c.loop-power.invariant c.in_err-product.ensures
