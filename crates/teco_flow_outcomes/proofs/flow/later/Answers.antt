use Rattle.teco_flow_outcomes.proofs.Prelude.{refl, sym, IfOk-weaker}
use Rattle.teco_flow_outcomes.proofs.Turning.{is_later}
use Rattle.teco_flow_outcomes.proofs.flow.later.Goals as goal

pub returns : goal.returns
returns c =
    IfOk-weaker c.led.result _ _
    (λ made led. is_later c.args.case.now made _ c.waiting.result refl (λ s h. sym
    (c.waiting.ensures s h)) led) c.led.ensures
