use Rattle.teco_flow_outcomes.proofs.Prelude.{refl, arith, common_steps, IfOk-weaker}
use Rattle.teco_flow_outcomes.proofs.Turning.{is_uncounted}
use Rattle.teco_flow_outcomes.proofs.flow.uncounted.Goals as goal

pub returns : goal.returns
returns c =
    IfOk-weaker c.turned.result _ _
    (λ made turns.
    is_uncounted c.args.case.now made _ _ turns refl c.in_ok-here.ensures.iteration (grind (arith, common_steps)))
    c.turned.ensures
