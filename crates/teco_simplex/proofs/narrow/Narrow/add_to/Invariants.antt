use Rattle.std.proofs.Common.{length}
use Rattle.teco_simplex.proofs.narrow.Narrow.add_to.Given as goal

abbrev pub decreases-loop-rest : goal.decreases-loop-rest
decreases-loop-rest l = length l.rest
