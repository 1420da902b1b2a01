use Rattle.teco_poly.proofs.Prelude.{ℕ, List, ◌+◌, ◌^◌, ◌<◌, ◌≤◌, value}
use Rattle.teco_poly.proofs.poly.Poly.greatest_within.Given as goal

-- the value is at most the bound here, and above it two to this power further on
pub record IsNear (p : List ℕ) (bound n bit : ℕ) : Type 0 where
  pub fits : n < 2 ^ 64
  pub within : value p n ≤ bound
  pub above : n + 2 ^ bit < 2 ^ 64 → bound < value p (n + 2 ^ bit)

abbrev pub invariant-loop-bit : goal.invariant-loop-bit
invariant-loop-bit l = IsNear l.self l.bound l.greatest l.bit
