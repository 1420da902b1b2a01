use Rattle.teco_linear.proofs.Prelude.{arith}
use Rattle.teco_linear.proofs.Judging.{implies_on}
use Rattle.teco_linear.proofs.implied.is_implied.Goals as goal

pub returns-clause-sound : goal.returns-clause-sound
returns-clause-sound c =
    implies_on c.is_harmless.result c.args.constraints.now c.args.multipliers.now c.args.divisor c.args.target.now
    c.in_ok-rest.rest
    (omega arith) c.in_ok-rest.ensures c.is_harmless.ensures
