use Rattle.teco_poly.proofs.Lawful.{comparison_orders}
use Rattle.teco_poly.proofs.laws.comparison_orders.Goals as goal

pub returns : goal.returns
returns c = comparison_orders
