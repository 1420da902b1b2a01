use Rattle.teco_linear.proofs.Judging.{IsTaken}
use Rattle.teco_linear.proofs.implied.rest.Given as goal

-- the multipliers before this one are done
abbrev pub invariant-loop-multiplier : goal.invariant-loop-multiplier
invariant-loop-multiplier l = IsTaken l.constraints l.multipliers l.divisor l.target l.multiplier-index l.rest
