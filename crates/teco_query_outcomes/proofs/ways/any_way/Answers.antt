use Rattle.teco_query_outcomes.proofs.ways.any_way.Goals as goal

pub returns : goal.returns
returns c = record { here = c.in_ok-here.here; level = c.in_ok-here.ensures; cases = c.in_ok-cases.ensures }
