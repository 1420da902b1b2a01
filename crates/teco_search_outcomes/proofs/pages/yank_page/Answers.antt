use Rattle.teco_search_outcomes.proofs.Prelude.{◌≡◌, [], ◌∷◌, ◌++◌, Some, arith, common_steps, All-head, All-pop}
use Rattle.teco_linear.specs.Implied as linear
use Rattle.teco_search_outcomes.proofs.Paging.{yanks_page}
use Rattle.teco_search_outcomes.proofs.pages.yank_page.Goals as goal

pub returns : goal.returns
returns c =
    let empty = c.in_ok-empty.empty in
    let left = c.in_ok-left.left in
    let conditions : c.push-2.new.self.items ≡ (empty ∷ []) ++ left ∷ [] = grind (arith, common_steps) in
    yanks_page c.args.case.now _ c.in_ok-cases.ensures
    (λ n v s t h.
    c.in_ok-left.ensures n v s t (All-pop (linear.Holds n v) _ (empty ∷ []) (Some left) conditions h).1)
    (λ n v s t h.
    c.in_ok-empty.ensures n v s t
    (All-head (linear.Holds n v) empty [] (All-pop (linear.Holds n v) _ (empty ∷ []) (Some left) conditions h).0))
