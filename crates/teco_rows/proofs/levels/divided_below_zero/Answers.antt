use Rattle.teco_rows.proofs.Prelude.{arith, refl, ints, IfOk-weaker}
use Rattle.teco_rows.proofs.Giving.{is_below_zero}
use Rattle.teco_rows.proofs.levels.divided_below_zero.Goals as goal

pub returns : goal.returns
returns c =
    IfOk-weaker c.led.result _ _
    (λ after led.
    is_below_zero c.args.case.now after _ c.args.by _ _ _ led refl (omega (arith, ints)) (omega (arith, ints))
    (omega (arith, ints)) c.requires c.in_ok-at_level.ensures)
    c.led.ensures
