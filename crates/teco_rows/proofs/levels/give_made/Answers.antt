use Rattle.teco_rows.proofs.Prelude.{IfOk-weaker}
use Rattle.teco_rows.proofs.Giving.{values_one}
use Rattle.teco_rows.proofs.levels.give_made.Goals as goal

pub returns : goal.returns
returns c =
    IfOk-weaker c.one.result _ _
    (λ all one. values_one c.args.case.now _ c.args.form _ all c.in_ok-conditions.ensures c.in_ok-after.ensures one)
    c.one.ensures
