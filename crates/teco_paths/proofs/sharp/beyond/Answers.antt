use Rattle.teco_paths.proofs.Prelude.{arith, ints}
use Rattle.teco_paths.proofs.sharp.beyond.Goals as goal

pub returns : goal.returns
returns c n v =
    omega (arith, ints, c.in_ok-one.ensures n v, c.in_ok-next.ensures n v, c.in_ok-more.ensures n v)
