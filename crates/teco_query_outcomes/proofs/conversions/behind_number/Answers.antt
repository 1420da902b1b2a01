use Rattle.teco_query_outcomes.proofs.Prelude.{IfOk-weaker}
use Rattle.teco_query_outcomes.proofs.Converting.{goes_behind}
use Rattle.teco_query_outcomes.proofs.conversions.behind_number.Goals as goal

pub returns : goal.returns
returns c =
    IfOk-weaker c.changed.result _ _ (λ made changes. goes_behind c.args.case.now made changes) c.changed.ensures
