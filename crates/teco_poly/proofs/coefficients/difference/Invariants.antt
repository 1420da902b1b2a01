use Rattle.teco_poly.proofs.Prelude.{ℕ, ◌-◌, ◌<◌, ◌≤◌, get_or}
use Rattle.teco_poly.proofs.Arrays.{IsFilled}
use Rattle.teco_poly.proofs.coefficients.difference.Given as goal

-- the places before this power are filled
abbrev pub invariant-loop-power : goal.invariant-loop-power
invariant-loop-power l = record {
  filled : IsFilled (λ k. get_or l.left k 0 - get_or l.right k 0) l.differences l.power;
  below : (k : ℕ) → k < l.power → get_or l.right k 0 ≤ get_or l.left k 0;
}
