use Rattle.teco_certificate.proofs.Unique.{one_entry}
use Rattle.teco_certificate.proofs.laws.one_entry.Goals as goal

pub returns : goal.returns
returns c = λ f g is other e. one_entry f g is.entry other.entry e
