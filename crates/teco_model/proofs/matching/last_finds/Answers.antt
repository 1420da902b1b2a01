use Rattle.teco_model.proofs.Searches.{last_finds}
use Rattle.teco_model.proofs.matching.last_finds.Goals as goal

pub returns : goal.returns
returns c = last_finds
