use Rattle.teco_law_tables.proofs.Framing.{runs_are_framed}
use Rattle.teco_law_tables.proofs.laws.runs_are_framed.Goals as goal

pub returns : goal.returns
returns c =
    runs_are_framed (assumption c) (assumption c) (assumption c) c.iterations_end.ensures c.steps_keep.ensures
