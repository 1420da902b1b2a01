use Rattle.teco_facts.proofs.Prelude.{arith, ints, clamps, to_z-of_z}
use Rattle.teco_facts.proofs.arithmetic.hull.Goals as goal

pub kept-requires : goal.kept-requires
kept-requires c = omega (
  arith,
  ints,
  clamps,
  c.min.ensures,
  c.min-2.ensures,
  c.min-lo.ensures,
  c.max.ensures,
  c.max-2.ensures,
  c.max-hi.ensures,
)

pub returns : goal.returns
returns c = grind (arith, to_z-of_z)
