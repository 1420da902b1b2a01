use Rattle.teco_law_facts.proofs.Flowing.{turns_are_sound}
use Rattle.teco_law_facts.proofs.sound.turns_are_sound.Goals as goal

pub returns : goal.returns
returns c = turns_are_sound
