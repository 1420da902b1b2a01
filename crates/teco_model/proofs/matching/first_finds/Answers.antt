use Rattle.teco_model.proofs.Searches.{first_finds}
use Rattle.teco_model.proofs.matching.first_finds.Goals as goal

pub returns : goal.returns
returns c = first_finds
