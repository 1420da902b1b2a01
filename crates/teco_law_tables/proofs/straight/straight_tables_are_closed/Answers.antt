use Rattle.teco_law_tables.proofs.straight_text.Closing.{straight_tables_are_closed}
use Rattle.teco_law_tables.proofs.straight.straight_tables_are_closed.Goals as goal

pub returns : goal.returns
returns c = straight_tables_are_closed
