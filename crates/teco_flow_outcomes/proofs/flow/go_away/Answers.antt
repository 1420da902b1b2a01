use Rattle.teco_flow_outcomes.proofs.Prelude.{◌≡◌, [], ◌∷◌, arith, common_steps}
use Rattle.teco_flow_outcomes.proofs.Branching.{are_later}
use Rattle.teco_flow_outcomes.proofs.flow.go_away.Goals as goal

pub returns : goal.returns
returns c =
    let one : c.push.new.self.items ≡ c.in_ok-later.field-0 ∷ [] = grind (arith, common_steps) in
    are_later c.args.case.now c.in_ok-later.field-0 c.push.new.self.items one c.in_ok-later.ensures
