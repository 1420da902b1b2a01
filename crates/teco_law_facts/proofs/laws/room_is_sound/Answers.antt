use Rattle.teco_law_facts.proofs.Bodies.{room_is_sound}
use Rattle.teco_law_facts.proofs.laws.room_is_sound.Goals as goal

pub returns : goal.returns
returns c = room_is_sound
