use Rattle.teco_poly.proofs.Prelude.{arith}
use Rattle.teco_poly.proofs.Arrays.{all_filled, greater_filled}
use Rattle.teco_poly.proofs.coefficients.greater.Goals as goal

pub returns : goal.returns
returns c =
    greater_filled c.args.left.now c.args.right.now c.loop-power.greater c.told-left c.told-right
    (all_filled _ _ _ c.loop-power.invariant (omega arith))
