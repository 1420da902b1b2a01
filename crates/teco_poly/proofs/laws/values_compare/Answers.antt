use Rattle.teco_poly.proofs.Lawful.{values_compare}
use Rattle.teco_poly.proofs.laws.values_compare.Goals as goal

pub returns : goal.returns
returns c = values_compare
