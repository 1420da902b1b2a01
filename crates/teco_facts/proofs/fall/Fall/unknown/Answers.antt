use Rattle.teco_facts.proofs.Prelude.{arith, ints, unknown}
use Rattle.teco_facts.proofs.Least.{kept_known, none_known}
use Rattle.teco_facts.proofs.fall.Fall.unknown.Goals as goal

pub invariant_of-result : goal.invariant_of-result
invariant_of-result c = kept_known unknown (omega (arith, ints))

pub returns : goal.returns
returns c = none_known unknown (omega (arith, ints))
