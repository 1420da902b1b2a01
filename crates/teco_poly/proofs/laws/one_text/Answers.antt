use Rattle.teco_poly.proofs.Lawful.{one_text}
use Rattle.teco_poly.proofs.laws.one_text.Goals as goal

pub returns : goal.returns
returns c = one_text
