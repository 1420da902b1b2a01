use Rattle.teco_poly.proofs.Lawful.{join_is_least}
use Rattle.teco_poly.proofs.laws.join_is_least.Goals as goal

pub returns : goal.returns
returns c = join_is_least
