use Rattle.teco_model.proofs.Searches.{forward_finds}
use Rattle.teco_model.proofs.matching.forward_finds.Goals as goal

pub returns : goal.returns
returns c = forward_finds
