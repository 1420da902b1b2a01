use Rattle.teco_law_tables.proofs.straight_text.Accepting.{straight_texts_are_accepted}
use Rattle.teco_law_tables.proofs.straight.straight_texts_are_accepted.Goals as goal

pub returns : goal.returns
returns c = straight_texts_are_accepted
