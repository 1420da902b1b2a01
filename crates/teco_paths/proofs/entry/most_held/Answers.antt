use Rattle.teco_paths.proofs.Prelude.{arith, ints}
use Rattle.teco_paths.proofs.Polynomials.{of_n}
use Rattle.teco_paths.proofs.entry.most_held.Goals as goal

pub returns : goal.returns
returns c n v =
    omega (arith, ints, c.in_ok-form.ensures n v, c.in_ok-all.ensures.value n v, c.in_ok-held.ensures n v, of_n n)
