use Rattle.teco_changes.proofs.Worked.{element_rows}
use Rattle.teco_changes.proofs.laws.element_rows.Goals as goal

pub returns : goal.returns
returns c = element_rows
