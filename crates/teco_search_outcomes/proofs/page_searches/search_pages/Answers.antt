use Rattle.teco_search_outcomes.proofs.Prelude.{◌∙◌, ap, refl, seen, FindInPages, ReplaceInPages, Ahead}
use Rattle.teco_search_outcomes.proofs.Prelude.{IfOk-weaker}
use Rattle.teco_model.specs.declared.kind.Kind.TheVariants as kind
use Rattle.teco_search_outcomes.proofs.Looking.{keeps_found_later, keeps_replaced_later, pages_law}
use Rattle.teco_search_outcomes.proofs.Seeking.{keeps_found, keeps_replaced}
use Rattle.teco_search_outcomes.proofs.page_searches.search_pages.Goals as goal

pub returns-in_ok-found-in-FindInPages : goal.returns-in_ok-found-in-FindInPages
returns-in_ok-found-in-FindInPages c =
    let e = seen c.args.element.now in
    let case = c.args.case.now in
    let begun = c.in_ok-begun.begun in
    let found = c.in_ok-found-in-FindInPages.found in
    let are = c.in_ok-found-in-FindInPages.ensures in
    IfOk-weaker c.page_outcomes.result _ _
    (λ all ends is.
    pages_law FindInPages c.args.answers e case begun found.here found.later found.guarded.items all (λ m l a w. refl)
    (is ∙ ap kind.Search c.in-FindInPages.is) c.in_ok-begun.ensures
    (keeps_found FindInPages e case found.here begun.parts.items Ahead _ (λ span kept. refl) are.here)
    (keeps_found_later e case begun.on found.later begun.parts.items _ are.later) ends.conditions ends.guarded ends.here
    ends.later)
    c.page_outcomes.ensures

pub returns-in_ok-found-in-ReplaceInPages : goal.returns-in_ok-found-in-ReplaceInPages
returns-in_ok-found-in-ReplaceInPages c =
    let e = seen c.args.element.now in
    let case = c.args.case.now in
    let begun = c.in_ok-begun.begun in
    let found = c.in_ok-found-in-ReplaceInPages.found in
    let are = c.in_ok-found-in-ReplaceInPages.ensures in
    IfOk-weaker c.page_outcomes-in-ReplaceInPages.result _ _
    (λ all ends is.
    pages_law ReplaceInPages c.args.answers e case begun found.here found.later found.guarded.items all
    (λ m l a w. refl) (is ∙ ap kind.Search c.in-ReplaceInPages.is) c.in_ok-begun.ensures
    (keeps_replaced ReplaceInPages e case found.here begun.parts.items Ahead _ (λ span kept. refl) are.here are.room)
    (keeps_replaced_later e case begun.on found.later begun.parts.items _ c.in_ok-begun.ensures.symbols are.later
    are.later_room) ends.conditions ends.guarded ends.here ends.later)
    c.page_outcomes-in-ReplaceInPages.ensures
