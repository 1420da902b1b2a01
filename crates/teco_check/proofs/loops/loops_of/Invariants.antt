use Rattle.teco_check.proofs.Prelude.{◌≡◌, ◌+◌, ◌++◌, drop}
use Rattle.teco_verifier.specs.table.Loops as rules
use Rattle.teco_check.proofs.loops.loops_of.Given as goal

abbrev pub invariant-loop-at : goal.invariant-loop-at
invariant-loop-at l =
    l.loops.items ++ rules.loops_from l.table (1 + l.at) (drop l.at l.nodes) ≡ rules.loops_of l.nodes l.table
