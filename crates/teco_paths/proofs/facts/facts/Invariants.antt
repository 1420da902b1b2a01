use Rattle.teco_paths.proofs.Prelude.{All, IsFact}
use Rattle.teco_paths.proofs.facts.facts.Given as goal

-- all are facts
abbrev pub invariant-loop-at : goal.invariant-loop-at
invariant-loop-at l = All (IsFact l.size) l.facts.items

abbrev pub invariant-loop-place : goal.invariant-loop-place
invariant-loop-place l = All (IsFact l.size) l.facts.items
