use Rattle.teco_poly.proofs.Prelude.{◌*◌, get_or}
use Rattle.teco_poly.proofs.Arrays.{IsFilled}
use Rattle.teco_poly.proofs.coefficients.scaled.Given as goal

-- the places before this power are filled
abbrev pub invariant-loop-power : goal.invariant-loop-power
invariant-loop-power l = IsFilled (λ k. get_or l.coefficients k 0 * l.factor) l.products l.power
