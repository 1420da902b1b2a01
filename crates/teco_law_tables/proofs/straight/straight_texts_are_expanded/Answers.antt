use Rattle.teco_law_tables.proofs.straight_text.Expanding.{straight_texts_are_expanded}
use Rattle.teco_law_tables.proofs.straight.straight_texts_are_expanded.Goals as goal

pub returns : goal.returns
returns c = straight_texts_are_expanded
