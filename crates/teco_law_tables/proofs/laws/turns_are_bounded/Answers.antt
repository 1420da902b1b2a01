use Rattle.teco_law_tables.proofs.Bounding.{turns_are_bounded}
use Rattle.teco_law_tables.proofs.laws.turns_are_bounded.Goals as goal

pub returns : goal.returns
returns c = turns_are_bounded (assumption c) (assumption c) c.iterations_end.ensures c.turns_are_bounded.ensures
