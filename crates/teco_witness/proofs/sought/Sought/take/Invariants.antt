use Rattle.std.proofs.Common.{◌≡◌, ◌-◌, length}
use Rattle.teco_witness.proofs.sought.Sought.take.Given as goal

abbrev pub invariant-loop-reading : goal.invariant-loop-reading
invariant-loop-reading l = l.ahead.text ≡ l.text

abbrev pub decreases-loop-reading : goal.decreases-loop-reading
decreases-loop-reading l = length l.text - l.ahead.place
