use Rattle.teco_law_facts.proofs.Transfers.{commands_are_sound}
use Rattle.teco_law_facts.proofs.sound.commands_are_sound.Goals as goal

pub returns : goal.returns
returns c = commands_are_sound
