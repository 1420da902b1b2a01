use Rattle.teco_search_outcomes.proofs.Prelude.{Some, None, negsuc, refl, subst, sym, IfOk-weaker, IsTold}
use Rattle.teco_search_outcomes.specs.PageSearches.{answer_of}
use Rattle.teco_search_outcomes.proofs.page_searches.met.Goals as goal

pub returns-then-answers : goal.returns-then-answers
returns-then-answers c =
    IfOk-weaker c.told.result _ _
    (λ made told.
    subst (λ b. IsTold c.args.found.now (answer_of b) made) (sym c.if-answers.true) (told (Some (negsuc 0)) refl))
    c.told.ensures

pub returns-else-answers : goal.returns-else-answers
returns-else-answers c =
    IfOk-weaker c.told-else-answers.result _ _
    (λ made told.
    subst (λ b. IsTold c.args.found.now (answer_of b) made) (sym c.if-answers.false) (told None refl))
    c.told-else-answers.ensures
