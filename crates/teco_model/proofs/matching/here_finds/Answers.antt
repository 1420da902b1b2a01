use Rattle.teco_model.proofs.Searches.{here_finds}
use Rattle.teco_model.proofs.matching.here_finds.Goals as goal

pub returns : goal.returns
returns c = here_finds
