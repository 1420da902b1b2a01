use Rattle.teco_search_outcomes.proofs.Prelude.{◌≡◌, [], ◌∷◌, arith, subst, common_steps, All-head, All}
use Rattle.teco_linear.specs.Implied as linear
use Rattle.teco_search_outcomes.proofs.Paging.{writes_page}
use Rattle.teco_search_outcomes.proofs.pages.turn_one.Goals as goal

pub returns : goal.returns
returns c =
    let items : c.push.new.self.items ≡ c.in_ok-left.left ∷ [] = grind (arith, common_steps) in
    writes_page c.args.case.now _ c.in_ok-cases.ensures
    (λ n v s t h.
    c.in_ok-left.ensures n v s t
    (All-head (linear.Holds n v) c.in_ok-left.left [] (subst (All (linear.Holds n v)) items h)))
