use Rattle.teco_check.proofs.Prelude.{◌≡◌, suc, drop, size, size_from}
use Rattle.teco_check.proofs.printed.size.Given as goal

-- what the nodes before this one hold is at most this
abbrev pub invariant-loop-at : goal.invariant-loop-at
invariant-loop-at l = size l.nodes l.table ≡ size_from l.table (suc l.at) (drop l.at l.nodes) l.most
