use Rattle.teco_query_outcomes.proofs.Prelude.{[], IfOk-weaker}
use Rattle.teco_query_outcomes.proofs.Asking.{mode_set}
use Rattle.teco_query_outcomes.proofs.queries.set_mode.Goals as goal

pub returns : goal.returns
returns c =
    IfOk-weaker c.one.result _ _
    (λ all one.
    mode_set c.args.case.now c.in_ok-after.after [] c.in_ok-here.here _ all c.requires c.in_ok-after.ensures one)
    c.one.ensures
