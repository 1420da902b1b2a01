use Rattle.teco_flow_outcomes.proofs.Prelude.{IfOk-weaker}
use Rattle.teco_flow_outcomes.proofs.Branching.{iterates}
use Rattle.teco_flow_outcomes.proofs.flow.iterate.Goals as goal

pub returns-in-Some : goal.returns-in-Some
returns-in-Some c =
    IfOk-weaker c.enter_counted.result _ _
    (λ all enters. iterates c.args.case.now c.in_ok-taken.taken _ all c.in_ok-taken.ensures c.in-Some.is enters)
    c.enter_counted.ensures

pub returns : goal.returns
returns c =
    IfOk-weaker c.enter_uncounted.result _ _
    (λ all enters. iterates c.args.case.now c.in_ok-taken.taken _ all c.in_ok-taken.ensures c.in-None.is enters)
    c.enter_uncounted.ensures
