use Rattle.teco_search_outcomes.proofs.Prelude.{refl, subst, sym, All, Guarded}
use Rattle.teco_linear.specs.Implied as linear
use Rattle.teco_search_outcomes.proofs.Searching.{has_room}
use Rattle.teco_search_outcomes.proofs.searches.fitted.Goals as goal

pub returns : goal.returns
returns c =
    let guarded : Guarded = record {
      symbols = c.args.case.now.symbols;
      constraints = c.in_ok-constraints.constraints;
      wanted = c.in_ok-wanted.wanted;
    } in
    has_room c.args.case.now c.args.made.now guarded c.in_ok-size.size c.in_ok-most.most refl
    (λ n w h. c.in_ok-constraints.ensures n w (subst (All (linear.Holds n w)) (sym c.deref.ensures.value) h))
    c.in_ok-size.ensures c.in_ok-most.ensures c.in_ok-wanted.ensures
