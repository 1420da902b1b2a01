use Rattle.teco_outcomes.proofs.Prelude.{subst, sym, IfOk-weaker, storage, Performs}
use Rattle.teco_outcomes.proofs.elements.store_number.Goals as goal

pub returns-in-SetNumber : goal.returns-in-SetNumber
returns-in-SetNumber c =
    IfOk-weaker c.set_number.result _ _
    (λ all told e. subst (λ k. Performs (storage k e) c.args.taken c.args.case.now all) (sym c.in-SetNumber.is)
    (told e))
    c.set_number.ensures

pub returns-in-Add : goal.returns-in-Add
returns-in-Add c =
    IfOk-weaker c.add_number.result _ _
    (λ all told e. subst (λ k. Performs (storage k e) c.args.taken c.args.case.now all) (sym c.in-Add.is) (told e))
    c.add_number.ensures
