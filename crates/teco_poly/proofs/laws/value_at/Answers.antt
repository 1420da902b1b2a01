use Rattle.teco_poly.proofs.Lawful.{value_at}
use Rattle.teco_poly.proofs.laws.value_at.Goals as goal

pub returns : goal.returns
returns c = value_at
