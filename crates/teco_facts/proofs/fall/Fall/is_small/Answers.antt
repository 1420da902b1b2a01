use Rattle.teco_facts.proofs.Prelude.{arith, ints}
use Rattle.teco_facts.proofs.Least.{none_small}
use Rattle.teco_facts.proofs.fall.Fall.is_small.Goals as goal

pub returns-then-self-le-UNKNOWN : goal.returns-then-self-le-UNKNOWN
returns-then-self-le-UNKNOWN c = (
  λ yes. rw (← c.self.view_is) (none_small c.self.inside.least (omega (arith, ints, c.if-self-le-UNKNOWN.true))),
  λ small. grind (arith, ints),
)
