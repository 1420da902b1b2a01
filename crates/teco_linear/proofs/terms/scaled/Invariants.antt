use Rattle.teco_linear.proofs.Prelude.{◌≤◌, vec_len, MAX_TERMS}
use Rattle.teco_linear.proofs.Loops.{IsScaled}
use Rattle.teco_linear.proofs.terms.scaled.Given as goal

-- the terms before this one are multiplied
abbrev pub invariant-loop-term : goal.invariant-loop-term
invariant-loop-term l = IsScaled l.terms l.scale l.term-index l.scaled.items × (vec_len l.scaled ≤ MAX_TERMS)
