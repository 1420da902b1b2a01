use Rattle.teco_rows.proofs.Prelude.{IfOk-weaker}
use Rattle.teco_rows.proofs.Giving.{masks_one}
use Rattle.teco_rows.proofs.levels.give_masked.Goals as goal

pub returns : goal.returns
returns c =
    IfOk-weaker c.one.result _ _
    (λ all one.
    masks_one c.args.case.now _ c.args.operator c.args.number.now c.in_ok-mask.mask _ all c.requires
    c.in_ok-mask.ensures c.in_ok-after.ensures one)
    c.one.ensures
