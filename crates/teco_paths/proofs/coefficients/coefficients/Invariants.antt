use Rattle.teco_paths.proofs.Prelude.{◌≡◌, ◌+◌, ◌^◌, ℕ, length}
use Rattle.teco_poly.specs.Polynomial as poly
use Rattle.teco_paths.proofs.coefficients.coefficients.Given as goal

-- what was found and what is left are the polynomial, and the power is that of the next coefficient
abbrev pub invariant-loop : goal.invariant-loop
invariant-loop l = record {
  told : (n : ℕ) → poly.value l.polynomial n ≡ poly.value l.found.items n + poly.value l.left n;
  raised : (n : ℕ) → poly.value l.power n ≡ n ^ length l.found.items;
}
