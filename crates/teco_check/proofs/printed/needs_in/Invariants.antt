use Rattle.teco_check.proofs.Prelude.{◌≡◌, suc, drop, needs_from}
use Rattle.teco_check.proofs.printed.needs_in.Given as goal

-- the needs of the nodes behind
abbrev pub invariant-loop-at : goal.invariant-loop-at
invariant-loop-at l = l.needs ≡ needs_from l.table (suc l.at) (drop l.at l.nodes)
