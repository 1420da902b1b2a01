use Rattle.teco_search_outcomes.proofs.Prelude.{ap, refl, subst, sym, ◌∙◌, IfOk-weaker, going_on, append, yank}
use Rattle.teco_search_outcomes.proofs.Prelude.{value_if, PageLaw}
use Rattle.teco_model.specs.Outside.{append_reply}
use Rattle.teco_model.specs.declared.kind.Kind.TheVariants as kind
use Rattle.teco_model.specs.declared.kind.Page.TheVariants.{Append, Yank}
use Rattle.teco_search_outcomes.proofs.Paging.{reads_law}
use Rattle.teco_search_outcomes.proofs.pages.read_pages.Goals as goal

pub returns-in-Append : goal.returns-in-Append
returns-in-Append c =
    IfOk-weaker c.append_page.result _ _
    (λ all told e is.
    subst (λ p. PageLaw p e c.args.case.now all) (sym c.in-Append.is)
    (reads_law Append append (λ taken left rest world. append_reply taken.value left rest world) e c.args.case.now
    c.in_ok-taken.taken all (λ left arguments world. refl)
    (λ n v left arguments world.
    ap (λ o. append_reply (value_if o n v) left arguments world) c.in-None.is)
    (λ files h. h) (is ∙ ap kind.Page c.in-Append.is) c.in_ok-taken.ensures told))
    c.append_page.ensures

pub returns-in-Yank : goal.returns-in-Yank
returns-in-Yank c =
    IfOk-weaker c.yank_page.result _ _
    (λ all told e is.
    subst (λ p. PageLaw p e c.args.case.now all) (sym c.in-Yank.is)
    (reads_law Yank yank (λ taken left rest world. going_on left rest (yank world)) e c.args.case.now
    c.in_ok-taken.taken all (λ left arguments world. refl) (λ n v left arguments world. refl)
    (λ files h. h) (is ∙ ap kind.Page c.in-Yank.is) c.in_ok-taken.ensures told))
    c.yank_page.ensures
