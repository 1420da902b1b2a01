use Rattle.teco_flow_outcomes.proofs.Branching.{tests}
use Rattle.teco_flow_outcomes.proofs.flow.conditional.Goals as goal

pub returns : goal.returns
returns c =
    tests c.args.case.now c.args.test c.in_ok-taken.taken c.in_ok-number.number _ _ _
    c.in_ok-taken.ensures c.in_ok-number.ensures c.where_it_holds.ensures c.where_it_fails.ensures
    c.in_ok-cases.ensures c.in_ok-away.ensures
