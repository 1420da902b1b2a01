use Rattle.std.specs.List.{AllAdjacentBelow}
use Rattle.teco_certificate.specs.WellFormed.{BeginsBefore}
use Rattle.teco_certificate.proofs.order.numbers_rise.Given as goal

-- the numbers so far rise
abbrev pub invariant-loop-next : goal.invariant-loop-next
invariant-loop-next l = AllAdjacentBelow BeginsBefore l.loops l.next
