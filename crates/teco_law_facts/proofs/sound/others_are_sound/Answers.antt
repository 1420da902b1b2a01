use Rattle.teco_law_facts.proofs.Flowing.{others_are_sound}
use Rattle.teco_law_facts.proofs.sound.others_are_sound.Goals as goal

pub returns : goal.returns
returns c = others_are_sound
