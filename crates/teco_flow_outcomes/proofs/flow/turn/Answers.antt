use Rattle.teco_flow_outcomes.proofs.Prelude.{IfOk-weaker, refl, sym, subst}
use Rattle.teco_model.specs.declared.kind.Flow.TheVariants as flow
use Rattle.teco_flow_outcomes.specs.Flow.{Turns}
use Rattle.teco_flow_outcomes.proofs.Branching.{goes_ahead, goes_past, otherwise}
use Rattle.teco_flow_outcomes.proofs.flow.turn.Goals as goal

pub returns-in-Iterate : goal.returns-in-Iterate
returns-in-Iterate c =
    IfOk-weaker c.iterate.result _ _
    (λ all told. subst (λ f. Turns f c.args.colons c.args.case.now all) (sym c.in-Iterate.is) (told c.args.colons))
    c.iterate.ensures

pub returns-in-EndTurn : goal.returns-in-EndTurn
returns-in-EndTurn c =
    IfOk-weaker c.end_turn.result _ _
    (λ all told. subst (λ f. Turns f c.args.colons c.args.case.now all) (sym c.in-EndTurn.is) (told c.args.colons))
    c.end_turn.ensures

pub returns-in-Leave : goal.returns-in-Leave
returns-in-Leave c =
    IfOk-weaker c.leave.result _ _
    (λ all told. subst (λ f. Turns f c.args.colons c.args.case.now all) (sym c.in-Leave.is) (told))
    c.leave.ensures

pub returns-in-Test : goal.returns-in-Test
returns-in-Test c =
    IfOk-weaker c.conditional.result _ _
    (λ all told. subst (λ f. Turns f c.args.colons c.args.case.now all) (sym c.in-Test.is) (told c.args.colons))
    c.conditional.ensures

pub returns-in-Otherwise : goal.returns-in-Otherwise
returns-in-Otherwise c =
    IfOk-weaker c.go_away.result _ _
    (λ all told. subst (λ f. Turns f c.args.colons c.args.case.now all) (sym c.in-Otherwise.is)
    (otherwise c.args.case.now all told c.args.colons))
    c.go_away.ensures

pub returns-in-GoAhead : goal.returns-in-GoAhead
returns-in-GoAhead c =
    IfOk-weaker c.go_away-in-GoAhead.result _ _
    (λ all told. subst (λ f. Turns f c.args.colons c.args.case.now all) (sym c.in-GoAhead.is)
    (goes_ahead c.args.case.now _ all told c.args.colons))
    c.go_away-in-GoAhead.ensures

pub returns-in-EndTest : goal.returns-in-EndTest
returns-in-EndTest c =
    IfOk-weaker c.go_past.result _ _
    (λ all told. subst (λ f. Turns f c.args.colons c.args.case.now all) (sym c.in-EndTest.is)
    (goes_past c.args.case.now flow.EndTest all (λ e arguments frame. refl) told c.args.colons))
    c.go_past.ensures

pub returns-in-Comment : goal.returns-in-Comment
returns-in-Comment c =
    IfOk-weaker c.go_past-in-Comment.result _ _
    (λ all told. subst (λ f. Turns f c.args.colons c.args.case.now all) (sym c.in-Comment.is)
    (goes_past c.args.case.now flow.Comment all (λ e arguments frame. refl) told c.args.colons))
    c.go_past-in-Comment.ensures

pub returns-in-GoTo : goal.returns-in-GoTo
returns-in-GoTo c =
    IfOk-weaker c.go_to.result _ _
    (λ all told. subst (λ f. Turns f c.args.colons c.args.case.now all) (sym c.in-GoTo.is) (told c.args.colons))
    c.go_to.ensures
