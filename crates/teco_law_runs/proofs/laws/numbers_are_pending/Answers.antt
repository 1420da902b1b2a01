use Rattle.teco_law_runs.proofs.Given.{numbers_are_pending}
use Rattle.teco_law_runs.proofs.laws.numbers_are_pending.Goals as goal

pub returns : goal.returns
returns c = numbers_are_pending
