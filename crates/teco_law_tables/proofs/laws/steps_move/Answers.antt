use Rattle.teco_law_tables.proofs.Steps.{steps_move}
use Rattle.teco_law_tables.proofs.laws.steps_move.Goals as goal

pub returns : goal.returns
returns c = steps_move c.iterations_are_open.ensures c.iterations_end.ensures c.left_have_ended.ensures
    c.ways_lead.ensures
