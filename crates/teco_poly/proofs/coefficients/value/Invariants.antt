use Rattle.teco_poly.proofs.Prelude.{◌≡◌, ◌^◌, ◌<◌, drop, value}
use Rattle.teco_poly.proofs.coefficients.value.Given as goal

-- the value of the coefficients from this power on
abbrev pub invariant-loop-power : goal.invariant-loop-power
invariant-loop-power l = (l.value ≡ value (drop l.power l.coefficients) l.n) × (l.value < 2 ^ 64)
