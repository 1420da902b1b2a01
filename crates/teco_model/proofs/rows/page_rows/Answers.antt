use Rattle.teco_model.proofs.WorkedPages.{page_rows}
use Rattle.teco_model.proofs.rows.page_rows.Goals as goal

pub returns : goal.returns
returns c = page_rows
