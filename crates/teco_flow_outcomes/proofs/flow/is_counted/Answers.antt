use Rattle.teco_flow_outcomes.proofs.Branching.{counts}
use Rattle.teco_flow_outcomes.proofs.flow.is_counted.Goals as goal

pub returns : goal.returns
returns c =
    counts c.args.case.now c.in_ok-here.here.iteration c.in_ok-turns.turns _ c.is_some.ensures
    c.in_ok-here.ensures.iteration c.in_ok-turns.ensures
