use Rattle.teco_law_facts.proofs.Bodies.{body_starts_are_sound}
use Rattle.teco_law_facts.proofs.laws.body_starts_are_sound.Goals as goal

pub returns : goal.returns
returns c = body_starts_are_sound
