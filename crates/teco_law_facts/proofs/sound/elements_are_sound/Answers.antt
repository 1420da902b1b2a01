use Rattle.teco_law_facts.proofs.Elements.{elements_are_sound}
use Rattle.teco_law_facts.proofs.sound.elements_are_sound.Goals as goal

pub returns : goal.returns
returns c = elements_are_sound
