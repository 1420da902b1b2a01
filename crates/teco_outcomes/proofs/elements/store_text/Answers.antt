use Rattle.teco_outcomes.proofs.Prelude.{refl, subst, sym, IfOk-weaker, seen, storage, Performs}
use Rattle.teco_outcomes.proofs.elements.store_text.Goals as goal

pub returns-in-Get : goal.returns-in-Get
returns-in-Get c =
    IfOk-weaker c.retrieve.result _ _
    (λ all told.
    subst (λ k. Performs (storage k (seen c.args.element.now)) c.args.taken c.args.case.now all) (sym c.in-Get.is)
    (told (seen c.args.element.now) refl))
    c.retrieve.ensures

pub returns-in-Copy : goal.returns-in-Copy
returns-in-Copy c =
    IfOk-weaker c.copy.result _ _
    (λ all told.
    subst (λ k. Performs (storage k (seen c.args.element.now)) c.args.taken c.args.case.now all) (sym c.in-Copy.is)
    (told (seen c.args.element.now) refl))
    c.copy.ensures

pub returns-in-SetText : goal.returns-in-SetText
returns-in-SetText c =
    IfOk-weaker c.set_text.result _ _
    (λ all told.
    subst (λ k. Performs (storage k (seen c.args.element.now)) c.args.taken c.args.case.now all) (sym c.in-SetText.is)
    told)
    c.set_text.ensures
