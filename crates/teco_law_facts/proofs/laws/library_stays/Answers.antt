use Rattle.teco_law_facts.proofs.Library.{library_stays}
use Rattle.teco_law_facts.proofs.laws.library_stays.Goals as goal

pub returns : goal.returns
returns c = library_stays
