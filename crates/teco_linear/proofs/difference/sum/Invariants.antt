use Rattle.teco_linear.proofs.Differences.{IsDifference}
use Rattle.teco_linear.proofs.difference.sum.Given as goal

-- the terms before this one are in the difference
abbrev pub invariant-loop-term : goal.invariant-loop-term
invariant-loop-term l = IsDifference l.terms l.term-index l.difference
