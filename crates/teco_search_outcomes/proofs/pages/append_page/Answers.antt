use Rattle.teco_search_outcomes.proofs.Prelude.{◌≡◌, [], ◌∷◌, arith, subst, common_steps, All-head, All}
use Rattle.teco_linear.specs.Implied as linear
use Rattle.teco_search_outcomes.proofs.Paging.{appends_page}
use Rattle.teco_search_outcomes.proofs.pages.append_page.Goals as goal

pub returns : goal.returns
returns c =
    let conditions : c.push.new.self.items ≡ c.in_ok-left.left ∷ [] = grind (arith, common_steps) in
    appends_page c.args.case.now c.in_ok-stays.stays c.in_ok-longer.longer _ c.in_ok-stays.ensures
    c.in_ok-longer.ensures c.in_ok-cases.ensures
    (λ n v s t h.
    c.in_ok-left.ensures n v s t
    (All-head (linear.Holds n v) c.in_ok-left.left [] (subst (All (linear.Holds n v)) conditions h)))
