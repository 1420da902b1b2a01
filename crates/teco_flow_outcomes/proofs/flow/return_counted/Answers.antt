use Rattle.teco_flow_outcomes.proofs.Prelude.{◌≡◌, [], ◌∷◌, arith, common_steps}
use Rattle.teco_flow_outcomes.proofs.Branching.{returns_counted}
use Rattle.teco_flow_outcomes.proofs.flow.return_counted.Goals as goal

pub returns : goal.returns
returns c =
    let last : c.push.new.self.items ≡ c.in_ok-ended.field-0 ∷ [] = grind (arith, common_steps) in
    let first : c.push-2.new.self.items ≡ c.in_ok-again.field-0 ∷ [] = grind (arith, common_steps) in
    returns_counted c.args.case.now c.in_ok-ended.field-0 c.in_ok-again.field-0 _ _ c.in_ok-ended.ensures
    c.in_ok-again.ensures last first
