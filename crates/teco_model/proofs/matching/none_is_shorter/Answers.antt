use Rattle.teco_model.proofs.Searches.{none_is_shorter}
use Rattle.teco_model.proofs.matching.none_is_shorter.Goals as goal

pub returns : goal.returns
returns c = none_is_shorter
