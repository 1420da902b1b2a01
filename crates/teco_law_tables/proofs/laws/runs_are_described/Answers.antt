use Rattle.teco_law_tables.proofs.Described.{runs_are_described}
use Rattle.teco_law_tables.proofs.laws.runs_are_described.Goals as goal

pub returns : goal.returns
returns c = runs_are_described (assumption c) (assumption c) c.iterations_end.ensures
