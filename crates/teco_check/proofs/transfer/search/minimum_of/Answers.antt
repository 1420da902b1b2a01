use Rattle.teco_check.proofs.Prelude.{arith}
use Rattle.teco_check.proofs.Searched.{minimum_within}
use Rattle.teco_check.proofs.transfer.search.minimum_of.Goals as goal

pub returns-in-Ok-Some-clause-within : goal.returns-in-Ok-Some-clause-within
returns-in-Ok-Some-clause-within c =
    omega (arith, minimum_within _ _ (rw c.in-Ok-Some.field-0-is at c.in-Ok-Some.ensures), c.requires)
