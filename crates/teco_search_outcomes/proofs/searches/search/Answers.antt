use Rattle.teco_search_outcomes.proofs.Prelude.{◌≡◌, ◌∙◌, ◌∷◌, [], ap, arith, refl, subst, common_steps, All-head}
use Rattle.teco_search_outcomes.proofs.Prelude.{All, IsGuarded, seen, IsFoundBy, IsReplacedBy}
use Rattle.teco_model.specs.declared.kind.Kind.TheVariants as kind
use Rattle.teco_model.specs.declared.kind.Search.TheVariants.{Find, Replace}
use Rattle.teco_search_outcomes.proofs.Seeking.{begun_law, if_three, keeps_found, keeps_replaced}
use Rattle.teco_search_outcomes.proofs.searches.search.Goals as goal

pub returns-in_ok-behind-in-Find : goal.returns-in_ok-behind-in-Find
returns-in_ok-behind-in-Find c =
    let e = seen c.args.element.now in
    let case = c.args.case.now in
    let begun = c.in_ok-begun.begun in
    let behind = c.in_ok-behind-in-Find.behind in
    let ps = begun.parts.items in
    let towards = begun.aim.direction in
    if_three c.ended_search.result _ _ _ _
    (λ all conditions same ends is.
    begun_law Find c.args.answers e case begun behind _ all (λ m l a w. refl) (is ∙ ap kind.Search c.in-Find.is)
    c.in_ok-begun.ensures
    (keeps_found Find e case behind ps towards _ (λ span kept. refl)
    (subst (λ p. IsFoundBy p towards case behind) c.deref.ensures.value c.in_ok-behind-in-Find.ensures))
    conditions same ends)
    c.ended_search.ensures.conditions c.ended_search.ensures.guarded c.ended_search.ensures.ends

pub returns-in_ok-push-in-Replace : goal.returns-in_ok-push-in-Replace
returns-in_ok-push-in-Replace c =
    let e = seen c.args.element.now in
    let case = c.args.case.now in
    let begun = c.in_ok-begun.begun in
    let behind = c.in_ok-behind-in-Replace.behind in
    let ps = begun.parts.items in
    let towards = begun.aim.direction in
    let guard = c.in_ok-fitted-in-Replace.field-0 in
    let items : c.push.new.self.items ≡ guard ∷ [] = grind (arith, common_steps) in
    if_three c.ended_search-in-Replace.result _ _ _ _
    (λ all conditions same ends is.
    begun_law Replace c.args.answers e case begun behind _ all (λ m l a w. refl) (is ∙ ap kind.Search c.in-Replace.is)
    c.in_ok-begun.ensures
    (keeps_replaced Replace e case behind ps towards _ (λ span kept. refl)
    (subst (λ p. IsReplacedBy p towards e.second case behind) c.deref-in-Replace.ensures.value
    c.in_ok-behind-in-Replace.ensures)
    (λ n v s d h.
    c.in_ok-fitted-in-Replace.ensures n v s d
    (All-head (IsGuarded n v) guard [] (subst (All (IsGuarded n v)) items h))))
    conditions same ends)
    c.ended_search-in-Replace.ensures.conditions c.ended_search-in-Replace.ensures.guarded
    c.ended_search-in-Replace.ensures.ends
