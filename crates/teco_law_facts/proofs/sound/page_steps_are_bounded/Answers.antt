use Rattle.teco_law_facts.proofs.Steppings.{page_steps_are_bounded}
use Rattle.teco_law_facts.proofs.sound.page_steps_are_bounded.Goals as goal

pub returns : goal.returns
returns c = page_steps_are_bounded
