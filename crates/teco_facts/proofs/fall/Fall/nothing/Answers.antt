use Rattle.teco_facts.proofs.Prelude.{pos, arith, ints}
use Rattle.teco_facts.proofs.Least.{kept_known, some_known}
use Rattle.teco_facts.proofs.fall.Fall.nothing.Goals as goal

pub invariant_of-result : goal.invariant_of-result
invariant_of-result c = kept_known (pos 0) (omega (arith, ints))

pub returns : goal.returns
returns c = some_known (pos 0) (omega (arith, ints))
