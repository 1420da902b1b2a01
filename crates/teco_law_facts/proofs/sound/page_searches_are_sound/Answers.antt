use Rattle.teco_law_facts.proofs.Seeking.{page_searches_are_sound}
use Rattle.teco_law_facts.proofs.sound.page_searches_are_sound.Goals as goal

pub returns : goal.returns
returns c = page_searches_are_sound
