use Rattle.teco_law_facts.proofs.Paging.{page_writes_are_sound}
use Rattle.teco_law_facts.proofs.sound.page_writes_are_sound.Goals as goal

pub returns : goal.returns
returns c = page_writes_are_sound
