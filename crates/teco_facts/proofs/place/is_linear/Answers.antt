use Rattle.teco_facts.proofs.Prelude.{arith, to_z-of_z}
use Rattle.teco_facts.proofs.place.is_linear.Goals as goal

pub returns-then-at_most-2 : goal.returns-then-at_most-2
returns-then-at_most-2 c = grind (arith, to_z-of_z)

pub returns-else-at_most-2 : goal.returns-else-at_most-2
returns-else-at_most-2 c = grind (arith, to_z-of_z)
