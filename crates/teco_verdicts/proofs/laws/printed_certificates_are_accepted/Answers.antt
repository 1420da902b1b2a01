use Rattle.teco_verdicts.proofs.RoundTrip.{printed_is_accepted}
use Rattle.teco_verdicts.proofs.laws.printed_certificates_are_accepted.Goals as goal

pub returns : goal.returns
returns c = printed_is_accepted
