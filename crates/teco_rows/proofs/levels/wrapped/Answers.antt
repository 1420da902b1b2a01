use Rattle.teco_rows.proofs.Prelude.{refl, IfOk-weaker}
use Rattle.teco_rows.proofs.Giving.{is_wrapped}
use Rattle.teco_rows.proofs.levels.wrapped.Goals as goal

pub returns : goal.returns
returns c =
    IfOk-weaker c.led.result _ _ (λ after led. is_wrapped c.args.case.now after _ refl c.in_ok-at_level.ensures led)
    c.led.ensures
