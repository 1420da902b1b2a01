use Rattle.teco_poly.proofs.Lawful.{value_of_sum}
use Rattle.teco_poly.proofs.laws.value_of_sum.Goals as goal

pub returns : goal.returns
returns c = value_of_sum
