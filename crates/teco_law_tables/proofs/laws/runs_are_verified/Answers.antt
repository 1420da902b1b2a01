use Rattle.teco_law_tables.proofs.Verifying.{runs_are_verified}
use Rattle.teco_law_tables.proofs.laws.runs_are_verified.Goals as goal

pub returns : goal.returns
returns c = runs_are_verified (assumption c) (assumption c) c.iterations_end.ensures c.runs_end_in_time.ensures
