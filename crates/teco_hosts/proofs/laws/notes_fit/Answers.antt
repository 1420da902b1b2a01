use Rattle.teco_hosts.proofs.Fitting.{notes_fit}
use Rattle.teco_hosts.proofs.laws.notes_fit.Goals as goal

pub returns : goal.returns
returns c = notes_fit
