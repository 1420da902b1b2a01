use Rattle.teco_search_outcomes.proofs.Prelude.{◌≡◌, ◌∙◌, List, None, Option, Some, arith, common_steps, false, is_some}
use Rattle.teco_search_outcomes.proofs.Prelude.{refl, subst, sym, IsTaken, Term}
use Rattle.teco_search_outcomes.proofs.searches.number_sought.Goals as goal

none_is : (form : Option (List Term)) → is_some form ≡ false → form ≡ None
none_is None h = refl
none_is (Some form) h = absurd cc

pub returns-clause-takes : goal.returns-clause-takes
returns-clause-takes c =
    subst (λ first. IsTaken c.args.case.now (record { first = first; value = c.in_ok-taken.taken.value }))
    (none_is c.in_ok-taken.taken.first (sym c.is_some.ensures ∙ c.if-is_some.false)) c.in_ok-taken.ensures

pub returns-clause-some : goal.returns-clause-some
returns-clause-some c = grind (arith, common_steps)
