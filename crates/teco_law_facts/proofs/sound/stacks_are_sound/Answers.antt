use Rattle.teco_law_facts.proofs.Transfers.{stacks_are_sound}
use Rattle.teco_law_facts.proofs.sound.stacks_are_sound.Goals as goal

pub returns : goal.returns
returns c = stacks_are_sound
