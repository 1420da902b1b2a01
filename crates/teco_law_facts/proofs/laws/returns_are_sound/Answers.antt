use Rattle.teco_law_facts.proofs.Bodies.{returns_are_sound}
use Rattle.teco_law_facts.proofs.laws.returns_are_sound.Goals as goal

pub returns : goal.returns
returns c = returns_are_sound
