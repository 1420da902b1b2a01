use Rattle.teco_law_tables.proofs.Told.{runs_change_as_told}
use Rattle.teco_law_tables.proofs.laws.runs_change_as_told.Goals as goal

pub returns : goal.returns
returns c =
    runs_change_as_told (assumption c) (assumption c) (assumption c) c.iterations_end.ensures c.ends_are_told.ensures
