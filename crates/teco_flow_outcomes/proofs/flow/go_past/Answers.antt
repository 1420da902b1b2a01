use Rattle.teco_flow_outcomes.proofs.Prelude.{IfOk-weaker}
use Rattle.teco_flow_outcomes.proofs.Branching.{are_later}
use Rattle.teco_flow_outcomes.proofs.flow.go_past.Goals as goal

pub returns : goal.returns
returns c =
    IfOk-weaker c.one.result _ _ (λ all one. are_later c.args.case.now c.in_ok-behind.behind _ one.cases
    c.in_ok-behind.ensures)
    c.one.ensures
