use Rattle.teco_model.proofs.WorkedSkips.{skip_rows}
use Rattle.teco_model.proofs.rows.skip_rows.Goals as goal

pub returns : goal.returns
returns c = skip_rows
