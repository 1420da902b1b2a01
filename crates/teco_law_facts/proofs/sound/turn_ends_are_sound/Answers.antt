use Rattle.teco_law_facts.proofs.Flowing.{turn_ends_are_sound}
use Rattle.teco_law_facts.proofs.sound.turn_ends_are_sound.Goals as goal

pub returns : goal.returns
returns c = turn_ends_are_sound
