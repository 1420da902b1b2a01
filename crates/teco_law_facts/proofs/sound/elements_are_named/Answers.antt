use Rattle.teco_law_facts.proofs.Names.{elements_are_named}
use Rattle.teco_law_facts.proofs.sound.elements_are_named.Goals as goal

pub returns : goal.returns
returns c = elements_are_named
