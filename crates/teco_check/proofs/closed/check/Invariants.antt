use Rattle.teco_check.proofs.Prelude.{◌≡◌, suc, drop, check, check_from}
use Rattle.teco_check.proofs.closed.check.Given as goal

-- the nodes before this one are closed
abbrev pub invariant-loop-at : goal.invariant-loop-at
invariant-loop-at l = check l.fn.argument l.nodes l.table ≡ check_from l.nodes l.table (suc l.at) (drop l.at l.nodes)
