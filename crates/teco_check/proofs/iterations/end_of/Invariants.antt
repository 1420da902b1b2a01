use Rattle.teco_check.proofs.Prelude.{◌≡◌, suc, drop, first_end}
use Rattle.teco_verifier.specs.expansion.Ends.{end_of}
use Rattle.teco_check.proofs.iterations.end_of.Given as goal

-- no node before this one ends it
abbrev pub invariant-loop-at : goal.invariant-loop-at
invariant-loop-at l = end_of l.nodes l.begin ≡ first_end l.begin (suc l.at) (drop l.at l.nodes)
