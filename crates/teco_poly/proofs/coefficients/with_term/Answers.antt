use Rattle.teco_poly.proofs.Prelude.{◌∙◌}
use Rattle.teco_poly.proofs.Products.{scaled_unfit, raised_unfit, summed}
use Rattle.teco_poly.proofs.coefficients.with_term.Goals as goal

pub returns : goal.returns
returns c =
    summed c.args.factor c.args.right.now c.args.product.now c.in_ok-scaled.field-0 c.in_ok-raised.field-0 c.sum.result
    c.in_ok-scaled.ensures c.in_ok-raised.ensures c.sum.ensures

pub returns-in_err-scaled : goal.returns-in_err-scaled
returns-in_err-scaled c =
    c.from_residual.ensures ∙ scaled_unfit c.args.factor c.args.right.now c.args.product.now c.in_err-scaled.ensures

pub returns-in_err-raised : goal.returns-in_err-raised
returns-in_err-raised c =
    c.from_residual-in_err-raised.ensures
    ∙ raised_unfit c.args.factor c.args.right.now c.args.product.now c.in_err-raised.ensures
