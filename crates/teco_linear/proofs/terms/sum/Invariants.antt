use Rattle.teco_linear.proofs.Prelude.{length, ◌-◌, ◌+◌, ◌≤◌, vec_len, MAX_TERMS}
use Rattle.teco_linear.proofs.Loops.{IsSum}
use Rattle.teco_linear.proofs.terms.sum.Given as goal

-- the terms before these two are added
abbrev pub invariant-terms : goal.invariant-terms
invariant-terms l =
    IsSum l.left l.right l.i l.j l.sum.items × (l.i ≤ length l.left) × (l.j ≤ length l.right) ×
    (vec_len l.sum ≤ MAX_TERMS)

abbrev pub decreases-terms : goal.decreases-terms
decreases-terms l = (length l.left - l.i) + (length l.right - l.j)
