use Rattle.teco_law_facts.proofs.Transfers.{values_are_sound}
use Rattle.teco_law_facts.proofs.sound.values_are_sound.Goals as goal

pub returns : goal.returns
returns c = values_are_sound
