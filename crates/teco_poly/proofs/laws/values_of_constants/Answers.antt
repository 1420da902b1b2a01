use Rattle.teco_poly.proofs.Lawful.{values_of_constants}
use Rattle.teco_poly.proofs.laws.values_of_constants.Goals as goal

pub returns : goal.returns
returns c = values_of_constants
