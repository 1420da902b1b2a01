use Rattle.teco_law_facts.proofs.Flowing.{leaves_are_sound}
use Rattle.teco_law_facts.proofs.sound.leaves_are_sound.Goals as goal

pub returns : goal.returns
returns c = leaves_are_sound
