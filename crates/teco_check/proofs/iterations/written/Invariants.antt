use Rattle.teco_check.proofs.Prelude.{◌≡◌, ◌-◌, take, drop, REGISTERS, written_in}
use Rattle.teco_check.proofs.iterations.written.Given as goal

-- what the nodes before this one write
abbrev pub invariant-loop-at : goal.invariant-loop-at
invariant-loop-at l = l.written ≡ written_in (take (l.at - l.begin) (drop l.begin l.nodes)) REGISTERS 0
