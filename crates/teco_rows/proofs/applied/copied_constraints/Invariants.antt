use Rattle.teco_rows.proofs.Prelude.{ℕ, All, Valuation}
use Rattle.teco_linear.specs.Implied.{Holds}
use Rattle.teco_rows.proofs.applied.copied_constraints.Given as goal

-- where all hold, what is copied so far holds
abbrev pub invariant-loop-form : goal.invariant-loop-form
invariant-loop-form l = (n : ℕ) (v : Valuation) → All (Holds n v) l.forms → All (Holds n v) l.copies.items
