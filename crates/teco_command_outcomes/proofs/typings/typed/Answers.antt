use Rattle.teco_command_outcomes.proofs.Prelude.{sym, subst, IfOk-weaker, Types}
use Rattle.teco_command_outcomes.proofs.Writing.{types_exactly, types_some}
use Rattle.teco_command_outcomes.proofs.typings.typed.Goals as goal

pub returns-in_ok-after-in-Exactly-clause-types : goal.returns-in_ok-after-in-Exactly-clause-types
returns-in_ok-after-in-Exactly-clause-types c =
    IfOk-weaker c.one.result _ _
    (λ all one. subst (λ k. Types k c.args.case.now all) (sym c.in-Exactly.is)
    (types_exactly c.args.case.now c.in_ok-after-in-Exactly.after c.in-Exactly.form c.in_ok-here.here _ all
    c.in_ok-after-in-Exactly.ensures one))
    c.one.ensures

pub returns-in_ok-after-in-AtMost-clause-types : goal.returns-in_ok-after-in-AtMost-clause-types
returns-in_ok-after-in-AtMost-clause-types c =
    IfOk-weaker c.one-in-AtMost.result _ _
    (λ all one. subst (λ k. Types k c.args.case.now all) (sym c.in-AtMost.is)
    (types_some c.args.case.now c.in_ok-after-in-AtMost.after c.in-AtMost.form c.in_ok-here.here _ all
    c.in_ok-after-in-AtMost.ensures one))
    c.one-in-AtMost.ensures
