use Rattle.teco_check.proofs.Prelude.{◌≡◌, drop, list_any, begins}
use Rattle.teco_check.proofs.loops.has_iterations.Given as goal

-- the nodes before this one begin none
abbrev pub invariant-loop-at : goal.invariant-loop-at
invariant-loop-at l = list_any begins (drop l.at l.nodes) ≡ list_any begins l.nodes
