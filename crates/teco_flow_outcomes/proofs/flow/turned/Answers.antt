use Rattle.teco_flow_outcomes.proofs.Prelude.{refl, rules, IfOk-weaker}
use Rattle.teco_flow_outcomes.proofs.Turning.{is_turned}
use Rattle.teco_flow_outcomes.proofs.flow.turned.Goals as goal

pub returns : goal.returns
returns c =
    IfOk-weaker c.with_iterations.result _ _
    (λ made has.
    is_turned c.args.case.now made c.args.step.now _ c.args.iterations has c.requires.level (search rules) refl refl)
    c.with_iterations.ensures
