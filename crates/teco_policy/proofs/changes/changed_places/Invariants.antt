use Rattle.std.proofs.Common.{◌≡◌, ◌+◌, ◌≤◌, length}
use Rattle.teco_policy.specs.Lines.{lines}
use Rattle.teco_policy.proofs.Differences.{CountsUpTo}
use Rattle.teco_policy.proofs.changes.changed_places.Given as goal

abbrev pub invariant-loop-a : goal.invariant-loop-a
invariant-loop-a l =
    CountsUpTo (lines l.fn.old) (lines l.fn.new) l.count (lines l.rest.0.now) (lines l.rest.1.now)
    × (length (lines l.rest.0.now) ≡ length (lines l.rest.1.now))
    × (l.count + length l.rest.0.now ≤ length l.fn.old)

abbrev pub decreases-loop-a : goal.decreases-loop-a
decreases-loop-a l = length l.rest.0.now
