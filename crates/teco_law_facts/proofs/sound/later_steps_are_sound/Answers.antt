use Rattle.teco_law_facts.proofs.Elements.{later_steps_are_sound}
use Rattle.teco_law_facts.proofs.sound.later_steps_are_sound.Goals as goal

pub returns : goal.returns
returns c = later_steps_are_sound
