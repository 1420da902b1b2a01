use Rattle.teco_linear.proofs.Prelude.{arith}
use Rattle.teco_linear.proofs.Loops.{IsScaled-more}
use Rattle.teco_linear.proofs.terms.scaled.Goals as goal

pub loop-term-preserved : goal.loop-term-preserved
loop-term-preserved c = (
  IsScaled-more c.args.terms.now c.loop-term.scaled.items c.push.new.sum.items c.args.scale.now c.loop-term.term-index
      c.in_ok-scaled-2.field-0 (omega arith) c.in_ok-scaled-2.ensures.value c.in_ok-push.ensures.value
      c.loop-term.invariant.0,
  c.in_ok-push.ensures.length,
)
