use Rattle.teco_query_outcomes.proofs.Prelude.{sym, subst, IfOk-weaker, after_stack, Foretells}
use Rattle.teco_query_outcomes.proofs.pushes.stack.Goals as goal

pub returns-in-Push : goal.returns-in-Push
returns-in-Push c =
    IfOk-weaker c.push_pair.result _ _
    (λ all told.
    subst (λ k. Foretells (λ s. after_stack k s.kept s.arguments) c.args.case.now all) (sym c.in-Push.is) told)
    c.push_pair.ensures

pub returns-in-Pop : goal.returns-in-Pop
returns-in-Pop c =
    IfOk-weaker c.pop_pair.result _ _
    (λ all told.
    subst (λ k. Foretells (λ s. after_stack k s.kept s.arguments) c.args.case.now all) (sym c.in-Pop.is) told)
    c.pop_pair.ensures
