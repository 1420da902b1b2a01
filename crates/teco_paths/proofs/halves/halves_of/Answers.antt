use Rattle.teco_paths.proofs.Prelude.{arith, ints}
use Rattle.teco_paths.proofs.halves.halves_of.Goals as goal

pub returns : goal.returns
returns c n v = omega (arith, ints, c.in_ok-ahead.ensures n v, c.in_ok-end.ensures n v)
