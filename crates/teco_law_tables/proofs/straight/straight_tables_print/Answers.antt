use Rattle.teco_law_tables.proofs.straight_text.Printing.{straight_tables_print}
use Rattle.teco_law_tables.proofs.straight.straight_tables_print.Goals as goal

pub returns : goal.returns
returns c = straight_tables_print
