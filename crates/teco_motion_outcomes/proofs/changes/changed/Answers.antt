use Rattle.teco_motion_outcomes.proofs.Prelude.{sym, IfOk-weaker}
use Rattle.teco_motion_outcomes.proofs.Changing.{is_changed}
use Rattle.teco_motion_outcomes.proofs.changes.changed.Goals as goal

pub returns : goal.returns
returns c =
    IfOk-weaker c.led.result _ _
    (λ made led. is_changed c.args.case.now made _ c.waiting.result (λ s h. sym (c.waiting.ensures s h)) led)
    c.led.ensures
