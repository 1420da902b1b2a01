use Rattle.std.proofs.Common.{◌+◌, ◌≤◌, length}
use Rattle.teco_policy.specs.Lines.{lines}
use Rattle.teco_policy.specs.Walks.{Alike, HasWalked}
use Rattle.teco_policy.proofs.walks.walk.Given as goal

abbrev pub invariant-loop-a : goal.invariant-loop-a
invariant-loop-a l =
    HasWalked (Alike l.rule) (lines l.fn.old) (lines l.fn.new) l.walked.count (lines l.walked.old.now)
    (lines l.walked.new.now)
    × (l.walked.count + length l.walked.old.now ≤ length l.fn.old)

abbrev pub decreases-loop-a : goal.decreases-loop-a
decreases-loop-a l = length l.walked.old.now
