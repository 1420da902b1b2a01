use Rattle.teco_search_outcomes.proofs.Prelude.{◌≡◌, [], ◌∷◌, arith, subst, common_steps, All-head, All-tail, All}
use Rattle.teco_search_outcomes.proofs.Prelude.{IsGuarded}
use Rattle.teco_search_outcomes.proofs.page_searches.both_fitted.Goals as goal

pub returns-clause-one : goal.returns-clause-one
returns-clause-one c = λ n v s d h.
    let one = c.in_ok-fitted.field-0 in
    let other = c.in_ok-fitted-2.field-0 in
    let items : c.push-2.new.self.items ≡ one ∷ other ∷ [] = grind (arith, common_steps) in
    c.in_ok-fitted.ensures n v s d
    (All-head (IsGuarded n v) one (other ∷ []) (subst (All (IsGuarded n v)) items h))

pub returns-clause-other : goal.returns-clause-other
returns-clause-other c = λ n v s d h.
    let one = c.in_ok-fitted.field-0 in
    let other = c.in_ok-fitted-2.field-0 in
    let items : c.push-2.new.self.items ≡ one ∷ other ∷ [] = grind (arith, common_steps) in
    c.in_ok-fitted-2.ensures n v s d
    (All-head (IsGuarded n v) other []
    (All-tail (IsGuarded n v) one (other ∷ []) (subst (All (IsGuarded n v)) items h)))
