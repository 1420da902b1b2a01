use Rattle.teco_rows.proofs.Prelude.{IfOk-weaker}
use Rattle.teco_rows.proofs.Giving.{wraps_one}
use Rattle.teco_rows.proofs.levels.give_wrapped.Goals as goal

pub returns : goal.returns
returns c =
    IfOk-weaker c.one.result _ _
    (λ all one.
    wraps_one c.args.case.now _ c.args.operator c.args.number.now _ all c.in_ok-conditions.ensures c.in_ok-after.ensures
    one)
    c.one.ensures
