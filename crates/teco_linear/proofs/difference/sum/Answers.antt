use Rattle.teco_linear.proofs.Prelude.{arith}
use Rattle.teco_linear.proofs.Differences.{IsDifference-more}
use Rattle.teco_linear.proofs.difference.sum.Goals as goal

pub loop-term-preserved : goal.loop-term-preserved
loop-term-preserved c =
    IsDifference-more c.args.terms.now c.loop-term.term-index c.loop-term.difference c.in_ok-difference.difference
    (omega arith)
    c.in_ok-difference.ensures c.loop-term.invariant
