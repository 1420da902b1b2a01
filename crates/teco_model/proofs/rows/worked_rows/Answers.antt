use Rattle.teco_model.proofs.Worked.{worked_rows}
use Rattle.teco_model.proofs.rows.worked_rows.Goals as goal

pub returns : goal.returns
returns c = worked_rows
