use Rattle.teco_facts.proofs.Prelude.{ℕ, ℤ, ◌<◌, Option, get_or, IsSmallFall}
use Rattle.teco_facts.proofs.falls.are_small.Given as goal

-- those before this one are
abbrev pub invariant-loop-at : goal.invariant-loop-at
invariant-loop-at l = (k : ℕ) (d : Option ℤ) → k < l.at → IsSmallFall (get_or l.falls k d)
