use Rattle.teco_flow_outcomes.proofs.Prelude.{refl, IfOk-weaker}
use Rattle.teco_flow_outcomes.proofs.Arguing.{is_parted}
use Rattle.teco_flow_outcomes.proofs.arguments.parted.Goals as goal

pub returns : goal.returns
returns c =
    IfOk-weaker c.led.result _ _
    (λ after led. is_parted c.args.case.now after _ refl c.in_ok-at_level.ensures led) c.led.ensures
