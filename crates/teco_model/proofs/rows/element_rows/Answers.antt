use Rattle.teco_model.proofs.WorkedElements.{element_rows}
use Rattle.teco_model.proofs.rows.element_rows.Goals as goal

pub returns : goal.returns
returns c = element_rows
