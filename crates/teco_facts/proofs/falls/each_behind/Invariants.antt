use Rattle.teco_facts.proofs.Prelude.{◌≡◌, ◌++◌, map, take, drop, fall_after}
use Rattle.teco_facts.proofs.falls.each_behind.Given as goal

-- the falls before this one are done
abbrev pub invariant-loop-at : goal.invariant-loop-at
invariant-loop-at l = l.falls ≡ map (fall_after l.by) (take l.at l.initial.falls) ++ drop l.at l.initial.falls
