use Rattle.teco_law_tables.proofs.Worked.{worked_tables}
use Rattle.teco_law_tables.proofs.laws.worked_tables.Goals as goal

pub returns : goal.returns
returns c = worked_tables
