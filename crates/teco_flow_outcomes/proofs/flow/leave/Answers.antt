use Rattle.teco_flow_outcomes.proofs.Prelude.{◌≡◌, [], ◌∷◌, arith, common_steps}
use Rattle.teco_flow_outcomes.proofs.Branching.{leaves_by_number}
use Rattle.teco_flow_outcomes.proofs.flow.leave.Goals as goal

pub returns : goal.returns
returns c =
    let one : c.push.new.self.items ≡ c.in_ok-left.field-0 ∷ [] = grind (arith, common_steps) in
    leaves_by_number c.args.case.now c.in_ok-left.field-0 c.args.colons c.in_ok-taken.taken
    c.in_ok-number.number _ _ _ c.in_ok-taken.ensures c.in_ok-number.ensures c.staying.ensures c.leaving.ensures
    c.in_ok-cases.ensures c.in_ok-left.ensures one
