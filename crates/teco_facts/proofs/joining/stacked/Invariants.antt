use Rattle.teco_facts.proofs.Prelude.{◌≡◌, ◌++◌, drop}
use Rattle.teco_facts.proofs.joining.stacked.Given as goal

-- the pairs from this one on are stacked
abbrev pub invariant-loop-at : goal.invariant-loop-at
invariant-loop-at l = l.stack ≡ drop l.at l.pairs ++ l.initial.stack
