use Rattle.teco_law_facts.proofs.Flowing.{iterations_are_sound}
use Rattle.teco_law_facts.proofs.sound.iterations_are_sound.Goals as goal

pub returns : goal.returns
returns c = iterations_are_sound
