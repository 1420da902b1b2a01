use Rattle.teco_simplex.proofs.exact.common_divisor.Given as goal

abbrev pub decreases-loop-rest : goal.decreases-loop-rest
decreases-loop-rest l = l.rest
