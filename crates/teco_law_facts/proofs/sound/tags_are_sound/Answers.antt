use Rattle.teco_law_facts.proofs.Flowing.{tags_are_sound}
use Rattle.teco_law_facts.proofs.sound.tags_are_sound.Goals as goal

pub returns : goal.returns
returns c = tags_are_sound
