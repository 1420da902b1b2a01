use Rattle.teco_law_facts.proofs.Seeking.{search_steps_are_bounded}
use Rattle.teco_law_facts.proofs.sound.search_steps_are_bounded.Goals as goal

pub returns : goal.returns
returns c = search_steps_are_bounded
