use Rattle.teco_poly.proofs.Prelude.{arith, ◌∙◌}
use Rattle.teco_poly.proofs.Arrays.{all_filled, differences_filled, differences_refused}
use Rattle.teco_poly.proofs.coefficients.difference.Goals as goal

pub returns-in_err-differences : goal.returns-in_err-differences
returns-in_err-differences c =
    c.from_residual.ensures ∙ differences_refused c.args.left.now c.args.right.now c.loop-power.power (omega arith)

pub returns : goal.returns
returns c =
    differences_filled c.args.left.now c.args.right.now c.loop-power.differences c.told-left c.told-right
    (all_filled _ _ _ c.loop-power.invariant.filled (omega arith)) (λ k h. c.loop-power.invariant.below k (omega arith))
