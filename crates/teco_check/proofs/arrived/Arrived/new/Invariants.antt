use Rattle.teco_check.proofs.Prelude.{◌≡◌, replicate, Ok, None}
use Rattle.teco_check.proofs.arrived.Arrived.new.Given as goal

-- so many are there
abbrev pub invariant-loop-at : goal.invariant-loop-at
invariant-loop-at l = l.slots.items ≡ replicate l._at (Ok None)
