use Rattle.teco_law_facts.proofs.Transfers.{arguments_are_sound}
use Rattle.teco_law_facts.proofs.sound.arguments_are_sound.Goals as goal

pub returns : goal.returns
returns c = arguments_are_sound
