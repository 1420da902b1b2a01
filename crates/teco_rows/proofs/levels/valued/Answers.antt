use Rattle.teco_rows.proofs.Prelude.{refl, IfOk-weaker}
use Rattle.teco_rows.proofs.Giving.{is_valued}
use Rattle.teco_rows.proofs.levels.valued.Goals as goal

pub returns : goal.returns
returns c =
    IfOk-weaker c.led.result _ _ (λ after led. is_valued c.args.case.now after _ refl c.in_ok-at_level.ensures led)
    c.led.ensures
