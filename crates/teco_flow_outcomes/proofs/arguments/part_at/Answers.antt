use Rattle.teco_flow_outcomes.proofs.Prelude.{◌≡◌, [], ◌∷◌, arith, common_steps, IfOk-weaker}
use Rattle.teco_flow_outcomes.proofs.Arguing.{parts_at}
use Rattle.teco_flow_outcomes.proofs.arguments.part_at.Goals as goal

pub returns : goal.returns
returns c =
    let wants : c.push.new.self.items ≡ c.in_ok-copied.field-0 ∷ [] = grind (arith, common_steps) in
    IfOk-weaker c.one.result _ _
    (λ all one.
    parts_at c.args.case.now c.in_ok-after.after c.args.value c.in_ok-copied.field-0 c.push.new.self.items all
    c.in_ok-copied.ensures c.in_ok-after.ensures wants one)
    c.one.ensures
