use Rattle.teco_law_facts.proofs.Transfers.{queries_are_sound}
use Rattle.teco_law_facts.proofs.sound.queries_are_sound.Goals as goal

pub returns : goal.returns
returns c = queries_are_sound
