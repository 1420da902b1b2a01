use Rattle.teco_simplex.proofs.exact.narrow_divisor.Given as goal

abbrev pub decreases-loop-rest : goal.decreases-loop-rest
decreases-loop-rest l = l.rest
