use Rattle.teco_poly.proofs.Prelude.{max, get_or}
use Rattle.teco_poly.proofs.Arrays.{IsFilled}
use Rattle.teco_poly.proofs.coefficients.greater.Given as goal

-- the places before this power are filled
abbrev pub invariant-loop-power : goal.invariant-loop-power
invariant-loop-power l = IsFilled (λ k. max (get_or l.left k 0) (get_or l.right k 0)) l.greater l.power
