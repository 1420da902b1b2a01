use Rattle.teco_paths.proofs.Prelude.{◌≡◌, ℕ, take, pos, Valuation, value}
use Rattle.teco_poly.specs.Polynomial as poly
use Rattle.teco_paths.proofs.course.form_of.Given as goal

-- the terms before this one are added
abbrev pub invariant-loop-at : goal.invariant-loop-at
invariant-loop-at l = (n : ℕ) (v : Valuation) → value l.form n v ≡ pos (poly.value (take l.at l.polynomial) n)
