use Rattle.teco_law_facts.proofs.Searching.{searches_are_sound}
use Rattle.teco_law_facts.proofs.sound.searches_are_sound.Goals as goal

pub returns : goal.returns
returns c = searches_are_sound
