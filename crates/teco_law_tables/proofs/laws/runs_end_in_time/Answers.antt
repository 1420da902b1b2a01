use Rattle.teco_law_tables.proofs.Ending.{runs_end_in_time}
use Rattle.teco_law_tables.proofs.laws.runs_end_in_time.Goals as goal

pub returns : goal.returns
returns c = runs_end_in_time (assumption c)
