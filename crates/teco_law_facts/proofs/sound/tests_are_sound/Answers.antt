use Rattle.teco_law_facts.proofs.Flowing.{tests_are_sound}
use Rattle.teco_law_facts.proofs.sound.tests_are_sound.Goals as goal

pub returns : goal.returns
returns c = tests_are_sound
