use Rattle.teco_flow_outcomes.proofs.Prelude.{◌≡◌, None, arith, common_steps, IfOk-weaker}
use Rattle.teco_flow_outcomes.proofs.Arguing.{gives_pair, is_alone}
use Rattle.teco_flow_outcomes.proofs.pairs.give_pair.Goals as goal

pub returns : goal.returns
returns c =
    let none : c.in_ok-pending.field-0 ≡ None = grind (arith, common_steps) in
    IfOk-weaker c.one.result _ _
    (λ all one.
    gives_pair c.args.case.now c.in_ok-after.after c.args.first.now c.in_ok-form.field-0.form c.in_ok-copied.field-0
    c.args.second _ c.push.new.self.items all
    (is_alone c.args.case.now c.in_ok-pending.field-0 none c.in_ok-pending.ensures) c.in_ok-form.ensures
    c.in_ok-copied.ensures c.in_ok-after.ensures c.in_ok-push.ensures.items one)
    c.one.ensures
