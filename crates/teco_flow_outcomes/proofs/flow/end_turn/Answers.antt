use Rattle.teco_flow_outcomes.proofs.Prelude.{true, false, subst, IfOk-weaker, Counts}
use Rattle.teco_flow_outcomes.proofs.Branching.{ends_turn}
use Rattle.teco_flow_outcomes.proofs.flow.end_turn.Goals as goal

pub returns-then-branch : goal.returns-then-branch
returns-then-branch c =
    IfOk-weaker c.return_counted.result _ _
    (λ all returns.
    ends_turn c.args.case.now c.in_ok-outermost.outermost true all c.in_ok-outermost.ensures
    (subst (λ b. Counts b c.in_ok-outermost.outermost) c.if-branch.true c.in_ok-is_counted.ensures) returns)
    c.return_counted.ensures

pub returns : goal.returns
returns c =
    IfOk-weaker c.return_uncounted.result _ _
    (λ all returns.
    ends_turn c.args.case.now c.in_ok-outermost.outermost false all c.in_ok-outermost.ensures
    (subst (λ b. Counts b c.in_ok-outermost.outermost) c.if-branch.false c.in_ok-is_counted.ensures) returns)
    c.return_uncounted.ensures
