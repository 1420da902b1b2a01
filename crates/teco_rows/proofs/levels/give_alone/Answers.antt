use Rattle.teco_rows.proofs.Prelude.{IfOk-weaker}
use Rattle.teco_rows.proofs.Giving.{gives_alone}
use Rattle.teco_rows.proofs.levels.give_alone.Goals as goal

pub returns : goal.returns
returns c =
    IfOk-weaker c.one.result _ _
    (λ all one. gives_alone c.args.case.now _ c.args.number _ all c.requires c.in_ok-after.ensures one) c.one.ensures
