use Rattle.teco_search_outcomes.proofs.Prelude.{ap, refl, subst, sym, ◌∙◌, IfOk-weaker, page_turned, page_written}
use Rattle.teco_search_outcomes.proofs.Prelude.{PageLaw}
use Rattle.teco_model.specs.declared.kind.Kind.TheVariants as kind
use Rattle.teco_model.specs.declared.kind.Page.TheVariants.{Next, Write}
use Rattle.teco_search_outcomes.proofs.Paging.{pages_law}
use Rattle.teco_search_outcomes.proofs.pages.write_pages.Goals as goal

pub returns-in-Next : goal.returns-in-Next
returns-in-Next c =
    IfOk-weaker c.by_page.result _ _
    (λ all told e is.
    subst (λ p. PageLaw p e c.args.case.now all) (sym c.in-Next.is)
    (pages_law Next page_turned e c.args.case.now c.in_ok-taken.taken all (λ left arguments world. refl)
    (λ files h. h) (is ∙ ap kind.Page c.in-Next.is) c.in_ok-taken.ensures told))
    c.by_page.ensures

pub returns-in-Write : goal.returns-in-Write
returns-in-Write c =
    IfOk-weaker c.by_page-in-Write.result _ _
    (λ all told e is.
    subst (λ p. PageLaw p e c.args.case.now all) (sym c.in-Write.is)
    (pages_law Write page_written e c.args.case.now c.in_ok-taken.taken all (λ left arguments world. refl)
    (λ files h. h) (is ∙ ap kind.Page c.in-Write.is) c.in_ok-taken.ensures told))
    c.by_page-in-Write.ensures
