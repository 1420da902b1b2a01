use Rattle.teco_search_outcomes.proofs.Prelude.{IfOk-weaker}
use Rattle.teco_search_outcomes.proofs.Searching.{warns}
use Rattle.teco_search_outcomes.proofs.searches.warned.Goals as goal

pub returns : goal.returns
returns c =
    IfOk-weaker c.changed.result _ _ (λ made changes. warns c.args.missed.now made changes) c.changed.ensures
