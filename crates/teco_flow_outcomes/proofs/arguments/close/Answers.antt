use Rattle.teco_flow_outcomes.proofs.Prelude.{◌≡◌, ◌≤◌, None, length, subst, arith, common_steps, IfOk-weaker, EndsWith}
use Rattle.teco_flow_outcomes.proofs.Arguing.{closes, is_alone}
use Rattle.teco_flow_outcomes.proofs.arguments.close.Goals as goal

pub returns-in-Some : goal.returns-in-Some
returns-in-Some c =
    let none : c.in_ok-first.first ≡ None = grind (arith, common_steps) in
    let deep : 2 ≤ length c.args.case.now.shape.operators.items = grind (arith, common_steps) in
    IfOk-weaker c.give.result _ _
    (λ all gives.
    closes c.args.case.now _ c.in-Some.value all deep
    (is_alone c.args.case.now c.in_ok-first.first none c.in_ok-first.ensures)
    (subst (EndsWith c.args.case.now) c.in-Some.is c.in_ok-value.ensures) c.in_ok-outside-in-Some.ensures gives)
    c.give.ensures
