use Rattle.teco_law_tables.proofs.straight_text.Deriving.{straight_tables_are_derived}
use Rattle.teco_law_tables.proofs.straight.straight_tables_are_derived.Goals as goal

pub returns : goal.returns
returns c = straight_tables_are_derived
