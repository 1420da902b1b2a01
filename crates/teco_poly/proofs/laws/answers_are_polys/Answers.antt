use Rattle.teco_poly.proofs.Lawful.{answers_are_polys}
use Rattle.teco_poly.proofs.laws.answers_are_polys.Goals as goal

pub returns : goal.returns
returns c = answers_are_polys
