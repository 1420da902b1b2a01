use Rattle.teco_query_outcomes.proofs.Prelude.{subst, IfOk-weaker, Stands}
use Rattle.teco_query_outcomes.proofs.Asking.{number_asked}
use Rattle.teco_query_outcomes.proofs.queries.ask_number.Goals as goal

pub character-requires : goal.character-requires
character-requires c = subst (λ b. Stands b c.args.case.now) c.if-branch.true c.in_ok-stands.ensures

pub returns : goal.returns
returns c =
    IfOk-weaker c.give.result _ _
    (λ all gives.
    number_asked c.args.case.now c.in_ok-number.field-0 c.args.register all
    (subst (λ b. Stands b c.args.case.now) c.if-branch.false c.in_ok-stands.ensures) c.in_ok-number.ensures gives)
    c.give.ensures
