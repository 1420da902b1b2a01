use Rattle.teco_law_facts.proofs.Meeting.{joins_are_sound}
use Rattle.teco_law_facts.proofs.laws.joins_are_sound.Goals as goal

pub returns : goal.returns
returns c = joins_are_sound
