use Rattle.teco_facts.proofs.Prelude.{arith, ints}
use Rattle.teco_facts.proofs.place.least_behind.Goals as goal

pub least-requires-clause-high : goal.least-requires-clause-high
least-requires-clause-high c = rw (c.apart.ensures, c.place.ensures.value, c.size.ensures)
    (omega (arith, ints, c.requires))
