use Rattle.teco_search_outcomes.proofs.Prelude.{IfOk-weaker}
use Rattle.teco_search_outcomes.proofs.Paging.{turns_page}
use Rattle.teco_search_outcomes.proofs.pages.next_page.Goals as goal

pub returns : goal.returns
returns c =
    IfOk-weaker c.told_both.result _ _
    (λ cases told.
    turns_page c.args.case.now c.in_ok-emptied.emptied c.in_ok-turned.turned cases.items c.in_ok-emptied.ensures
    c.in_ok-turned.ensures told)
    c.told_both.ensures
