use Rattle.teco_query_outcomes.proofs.Prelude.{◌≡◌, ap, ◌∙◌, ◌++◌, ◌∷◌, []}
use Rattle.teco_query_outcomes.proofs.Converting.{behind_known}
use Rattle.teco_query_outcomes.proofs.conversions.behind_known.Goals as goal

pub returns : goal.returns
returns c =
    let first = c.in_ok-add_changed.ensures in
    let second = c.in_ok-add_changed-2.ensures in
    let third = c.in_ok-add_changed-3.ensures in
    let none : c.new-cases.result.items ≡ [] = c.new-cases.ensures.items in
    behind_known c.args.case.now first.made second.made third.made _ first.changes second.changes third.changes
    (third.items ∙ ap (λ xs. xs ++ third.made ∷ []) (second.items ∙ ap (λ xs. xs ++ second.made ∷ []) (first.items
    ∙ ap (λ xs. xs ++ first.made ∷ []) none)))
