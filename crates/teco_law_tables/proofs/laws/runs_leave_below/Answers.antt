use Rattle.teco_law_tables.proofs.Below.{runs_leave_below}
use Rattle.teco_law_tables.proofs.laws.runs_leave_below.Goals as goal

pub returns : goal.returns
returns c =
    runs_leave_below (assumption c) (assumption c) (assumption c) c.iterations_end.ensures c.nodes_are_sound.ensures
