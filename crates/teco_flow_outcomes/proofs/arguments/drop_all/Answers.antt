use Rattle.teco_flow_outcomes.proofs.Prelude.{IfOk-weaker}
use Rattle.teco_flow_outcomes.proofs.Arguing.{drops}
use Rattle.teco_flow_outcomes.proofs.arguments.drop_all.Goals as goal

pub returns : goal.returns
returns c =
    IfOk-weaker c.one.result _ _
    (λ all one. drops c.args.case.now c.in_ok-after.after _ all c.in_ok-after.ensures one)
    c.one.ensures
