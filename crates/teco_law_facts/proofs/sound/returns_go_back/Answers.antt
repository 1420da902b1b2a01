use Rattle.teco_law_facts.proofs.Elements.{returns_go_back}
use Rattle.teco_law_facts.proofs.sound.returns_go_back.Goals as goal

pub returns : goal.returns
returns c = returns_go_back
