use Rattle.std.proofs.Common.{arith}
use Rattle.teco_policy.specs.Lines.{lines}
use Rattle.teco_policy.specs.Walks.{Alike}
use Rattle.teco_policy.proofs.Walking.{goes_on}
use Rattle.teco_policy.proofs.walks.walk.Goals as goal

pub loop-a-preserved : goal.loop-a-preserved
loop-a-preserved c = (
  goes_on (Alike c.args.rule) (lines c.args.old.now) (lines c.args.new.now) c.loop-a.walked.count
      (lines c.loop-a.walked.old.now) (lines c.loop-a.walked.new.now) (lines c.in-Some.a.now) (lines c.in-Some.b.now)
      c.loop-a.invariant.0 c.in-Some.ensures.rests,
  omega (arith, c.in-Some.ensures.shorter),
)
