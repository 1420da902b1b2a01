use Rattle.teco_poly.proofs.Prelude.{ℕ, ◌<◌, ◌≤◌, get_or}
use Rattle.teco_poly.proofs.coefficients.is_at_most.Given as goal

-- no place before this power refuses
abbrev pub invariant-loop-power : goal.invariant-loop-power
invariant-loop-power l = (k : ℕ) → k < l.power → get_or l.left k 0 ≤ get_or l.right k 0
