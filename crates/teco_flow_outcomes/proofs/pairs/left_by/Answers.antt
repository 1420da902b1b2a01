use Rattle.teco_flow_outcomes.proofs.Prelude.{◌≡◌, None, arith, rules, common_steps}
use Rattle.teco_flow_outcomes.proofs.Arguing.{leaves_alone, leaves_made, waits_none, waits_some}
use Rattle.teco_flow_outcomes.proofs.pairs.left_by.Goals as goal

pub returns-in_default : goal.returns-in_default
returns-in_default c =
    let none : c.waiting.result ≡ None = grind (arith, common_steps) in
    leaves_alone c.args.case.now c.args.number.now c.in_ok-form.form _
    (waits_none c.args.case.now c.waiting.result none c.waiting.ensures) c.in_ok-form.ensures

pub returns-in-Some-2 : goal.returns-in-Some-2
returns-in-Some-2 c =
    leaves_made c.args.case.now c.in_ok-value.value c.args.number.now c.in-Some-2.form c.in-Some.operator _
    (waits_some c.args.case.now c.waiting.result c.in-Some.operator c.in-Some.is c.waiting.ensures)
    c.in_ok-value.ensures (search rules) c.in_ok-conditions-in-Some-2.ensures
