use Rattle.teco_poly.proofs.Prelude.{arith, ◌∙◌}
use Rattle.teco_poly.proofs.Arrays.{all_filled, sums_filled, sums_unfit}
use Rattle.teco_poly.proofs.coefficients.sum.Goals as goal

pub returns-in_err-sums : goal.returns-in_err-sums
returns-in_err-sums c = c.from_residual.ensures ∙ sums_unfit c.args.left.now c.args.right.now c.loop-power.power
    (omega arith)

pub returns : goal.returns
returns c =
    sums_filled c.args.left.now c.args.right.now c.loop-power.sums c.told-left c.told-right
    (all_filled _ _ _ c.loop-power.invariant (omega arith))
