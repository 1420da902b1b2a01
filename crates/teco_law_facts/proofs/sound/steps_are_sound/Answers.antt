use Rattle.teco_law_facts.proofs.Elements.{steps_are_sound}
use Rattle.teco_law_facts.proofs.sound.steps_are_sound.Goals as goal

pub returns : goal.returns
returns c = steps_are_sound
