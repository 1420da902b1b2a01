use Rattle.teco_law_facts.proofs.Ways.{ways_are_sound}
use Rattle.teco_law_facts.proofs.laws.ways_are_sound.Goals as goal

pub returns : goal.returns
returns c = ways_are_sound
