use Rattle.teco_flow_outcomes.proofs.Prelude.{◌≡◌, None, subst, arith, common_steps, IfOk-weaker, EndsWith}
use Rattle.teco_flow_outcomes.proofs.Arguing.{is_alone, parts}
use Rattle.teco_flow_outcomes.proofs.arguments.part.Goals as goal

pub returns-in-Some : goal.returns-in-Some
returns-in-Some c =
    let none : c.in_ok-first.first ≡ None = grind (arith, common_steps) in
    IfOk-weaker c.part_at.result _ _
    (λ all at.
    parts c.args.case.now c.in-Some.value all (is_alone c.args.case.now c.in_ok-first.first none c.in_ok-first.ensures)
    (subst (EndsWith c.args.case.now) c.in-Some.is c.in_ok-value.ensures) at)
    c.part_at.ensures
