use Rattle.teco_flow_outcomes.proofs.Prelude.{◌≡◌, ◌≤◌, [], ◌∷◌, arith, common_steps}
use Rattle.teco_flow_outcomes.proofs.Branching.{jumps_inside, jumps_out}
use Rattle.teco_flow_outcomes.proofs.flow.behind_tag.Goals as goal

pub returns-then-iterations-eq0 : goal.returns-then-iterations-eq0
returns-then-iterations-eq0 c =
    let items : c.push.new.self.items ≡ c.in_ok-stays.stays ∷ [] = grind (arith, common_steps) in
    let none : c.args.case.now.shape.iterations ≡ 0 = grind (arith, common_steps) in
    jumps_inside c.args.case.now c.in_ok-stays.stays _ none c.in_ok-stays.ensures items

pub returns : goal.returns
returns c =
    let items : c.push-2.new.self.items ≡ c.in_ok-stays.stays ∷ c.in_ok-gone.gone ∷ [] = grind (arith, common_steps) in
    let few : c.args.case.now.shape.iterations ≤ 1 = grind (arith, common_steps) in
    jumps_out c.args.case.now c.in_ok-stays.stays c.in_ok-gone.gone [] _ few c.in_ok-stays.ensures c.in_ok-gone.ensures
    items
