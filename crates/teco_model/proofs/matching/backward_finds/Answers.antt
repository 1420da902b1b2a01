use Rattle.teco_model.proofs.Searches.{backward_finds}
use Rattle.teco_model.proofs.matching.backward_finds.Goals as goal

pub returns : goal.returns
returns c = backward_finds
