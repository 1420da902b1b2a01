use Rattle.teco_law_tables.proofs.Closing.{tables_are_closed}
use Rattle.teco_law_tables.proofs.laws.tables_are_closed.Goals as goal

pub returns : goal.returns
returns c = tables_are_closed c.iterations_are_open.ensures c.iterations_end.ensures c.nodes_nest.ensures
