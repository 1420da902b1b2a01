use Rattle.teco_flow_outcomes.proofs.Prelude.{IfOk-weaker}
use Rattle.teco_flow_outcomes.proofs.Branching.{enters_uncounted}
use Rattle.teco_flow_outcomes.proofs.flow.enter_uncounted.Goals as goal

pub returns : goal.returns
returns c =
    IfOk-weaker c.one.result _ _
    (λ all one. enters_uncounted c.args.case.now c.in_ok-body.body _ _ c.in_ok-body.ensures one.cases) c.one.ensures
