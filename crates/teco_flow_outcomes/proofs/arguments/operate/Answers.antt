use Rattle.teco_flow_outcomes.proofs.Prelude.{◌≡◌, None, refl, arith, common_steps, IfOk-weaker}
use Rattle.teco_flow_outcomes.proofs.Arguing.{operated, waits_none}
use Rattle.teco_flow_outcomes.proofs.arguments.operate.Goals as goal

pub returns : goal.returns
returns c =
    let none : c.waiting.result ≡ None = grind (arith, common_steps) in
    IfOk-weaker c.one.result _ _
    (λ all one.
    operated c.args.case.now c.in_ok-after.after _ c.args.operator _ all refl
    (waits_none c.args.case.now c.waiting.result none c.waiting.ensures) c.in_ok-after.ensures one)
    c.one.ensures
