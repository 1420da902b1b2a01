use Rattle.teco_search_outcomes.proofs.Prelude.{subst, Ahead, IsFoundBy}
use Rattle.teco_search_outcomes.proofs.page_searches.found_matches.Goals as goal

pub returns-clause-here : goal.returns-clause-here
returns-clause-here c =
    subst (λ p. IsFoundBy p Ahead c.args.case.now c.in_ok-here.here) c.deref.ensures.value c.in_ok-here.ensures

pub returns-clause-later : goal.returns-clause-later
returns-clause-later c =
    subst (λ p. IsFoundBy p Ahead c.args.begun.now.on c.in_ok-later.later) c.deref-2.ensures.value
    c.in_ok-later.ensures
