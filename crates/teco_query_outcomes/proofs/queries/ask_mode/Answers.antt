use Rattle.teco_query_outcomes.proofs.Prelude.{subst, IfOk-weaker, Stands}
use Rattle.teco_query_outcomes.proofs.Asking.{mode_asked}
use Rattle.teco_query_outcomes.proofs.queries.ask_mode.Goals as goal

pub set_mode-requires : goal.set_mode-requires
set_mode-requires c = subst (λ b. Stands b c.args.case.now) c.if-branch.true c.in_ok-stands.ensures

pub returns : goal.returns
returns c =
    IfOk-weaker c.give_any.result _ _
    (λ all gives.
    mode_asked c.args.case.now all
    (subst (λ b. Stands b c.args.case.now) c.if-branch.false c.in_ok-stands.ensures) gives)
    c.give_any.ensures
