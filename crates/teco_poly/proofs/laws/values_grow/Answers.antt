use Rattle.teco_poly.proofs.Lawful.{values_grow}
use Rattle.teco_poly.proofs.laws.values_grow.Goals as goal

pub returns : goal.returns
returns c = values_grow
