use Rattle.teco_poly.proofs.Prelude.{arith}
use Rattle.teco_poly.proofs.Arrays.{none_above, one_above}
use Rattle.teco_poly.proofs.coefficients.is_at_most.Goals as goal

pub returns : goal.returns
returns c = none_above c.args.left.now c.args.right.now c.loop-power.power c.told-left
    (omega arith) c.loop-power.invariant

pub returns-then-left-power : goal.returns-then-left-power
returns-then-left-power c = one_above c.args.left.now c.args.right.now c.loop-power.power (omega arith)
