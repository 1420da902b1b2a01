use Rattle.teco_claims.proofs.Prelude.{ℕ, IsGcd}
use Rattle.teco_claims.proofs.spelled.greatest_divisor.Given as goal

-- what divides these two divides the first two
abbrev pub invariant-steps : goal.invariant-steps
invariant-steps l = (g : ℕ) → IsGcd l.greater l.less g → IsGcd l.first l.second g

abbrev pub decreases-steps : goal.decreases-steps
decreases-steps l = l.less
