use Rattle.teco_facts.proofs.Prelude.{◌≡◌, ◌∷◌, map, take, Some, pos}
use Rattle.teco_verifier.specs.facts.Bodies.{fall_if}
use Rattle.teco_facts.proofs.falls.falls_at_start.Given as goal

-- nothing has fallen in the body, and the falls outside before this one are done
abbrev pub invariant-loop-at : goal.invariant-loop-at
invariant-loop-at l = l.start ≡ Some (pos 0) ∷ map (fall_if l.kept) (take l.at l.outer)
