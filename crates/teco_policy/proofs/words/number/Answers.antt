use Rattle.std.proofs.Common.{arith}
use Rattle.teco_policy.proofs.Asking.{number_more}
use Rattle.teco_policy.proofs.words.number.Goals as goal

pub loop-digit-preserved : goal.loop-digit-preserved
loop-digit-preserved c =
    number_more c.args.digits.now c.loop-digit.n c.in_ok-n.n c.loop-digit.digit-index (omega arith)
    c.loop-digit.invariant c.in_ok-n.ensures.digit c.in_ok-n.ensures.value
