use Rattle.teco_law_facts.proofs.Paging.{appends_are_sound}
use Rattle.teco_law_facts.proofs.sound.appends_are_sound.Goals as goal

pub returns : goal.returns
returns c = appends_are_sound
