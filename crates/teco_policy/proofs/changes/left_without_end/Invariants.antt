use Rattle.std.proofs.Common.{length}
use Rattle.teco_policy.specs.Lines.{lines}
use Rattle.teco_policy.specs.Walks.{HaveCommonEnd}
use Rattle.teco_policy.proofs.changes.left_without_end.Given as goal

abbrev pub invariant-loop-front : goal.invariant-loop-front
invariant-loop-front l =
    HaveCommonEnd (lines l.fn.old) (lines l.fn.new) (lines l.rest.0.now) (lines l.rest.1.now)

abbrev pub decreases-loop-front : goal.decreases-loop-front
decreases-loop-front l = length l.rest.0.now
