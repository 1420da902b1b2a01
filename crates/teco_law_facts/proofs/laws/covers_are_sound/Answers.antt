use Rattle.teco_law_facts.proofs.Covering.{covers_are_sound}
use Rattle.teco_law_facts.proofs.laws.covers_are_sound.Goals as goal

pub returns : goal.returns
returns c = covers_are_sound
