use Rattle.teco_model.proofs.MatchWorked.{match_rows}
use Rattle.teco_model.proofs.matching.match_rows.Goals as goal

pub returns : goal.returns
returns c = match_rows
