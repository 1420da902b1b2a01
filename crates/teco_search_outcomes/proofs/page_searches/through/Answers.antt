use Rattle.teco_search_outcomes.proofs.Prelude.{IfOk-weaker}
use Rattle.teco_search_outcomes.proofs.Looking.{is_through}
use Rattle.teco_search_outcomes.proofs.page_searches.through.Goals as goal

pub returns : goal.returns
returns c =
    IfOk-weaker c.changed.result _ _ (λ made changes. is_through c.args.case.now made changes) c.changed.ensures
