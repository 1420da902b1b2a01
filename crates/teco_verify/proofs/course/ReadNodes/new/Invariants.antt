use Rattle.teco_verify.proofs.Prelude.{◌≡◌, length}
use Rattle.teco_verify.proofs.course.ReadNodes.new.Given as goal

-- each node before this one is read
abbrev pub invariant-loop-at : goal.invariant-loop-at
invariant-loop-at l = length l.stops.items ≡ l.at
