use Rattle.teco_law_tables.proofs.straight_text.Worked.{worked_straight_text}
use Rattle.teco_law_tables.proofs.straight.worked_straight_text.Goals as goal

pub returns : goal.returns
returns c = worked_straight_text
