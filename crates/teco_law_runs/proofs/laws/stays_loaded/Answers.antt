use Rattle.teco_law_runs.proofs.StayLoaded.{stays_loaded}
use Rattle.teco_law_runs.proofs.laws.stays_loaded.Goals as goal

pub returns : goal.returns
returns c = stays_loaded
