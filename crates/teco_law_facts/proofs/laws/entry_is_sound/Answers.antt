use Rattle.teco_law_facts.proofs.Bodies.{entry_is_sound}
use Rattle.teco_law_facts.proofs.laws.entry_is_sound.Goals as goal

pub returns : goal.returns
returns c = entry_is_sound
