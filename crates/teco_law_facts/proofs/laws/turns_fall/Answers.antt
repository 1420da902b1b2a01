use Rattle.teco_law_facts.proofs.Bodies.{turns_fall}
use Rattle.teco_law_facts.proofs.laws.turns_fall.Goals as goal

pub returns : goal.returns
returns c = turns_fall
