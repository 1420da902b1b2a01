use Rattle.teco_model.proofs.Searches.{one_end}
use Rattle.teco_model.proofs.matching.one_end.Goals as goal

pub returns : goal.returns
returns c = one_end
