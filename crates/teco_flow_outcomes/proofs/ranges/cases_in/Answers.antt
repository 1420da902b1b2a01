use Rattle.teco_flow_outcomes.proofs.Prelude.{◌≡◌, [], ◌∷◌, slice_index_or, arith, common_steps}
use Rattle.teco_flow_outcomes.proofs.Turning.{behind_in_one, behind_in_two}
use Rattle.teco_flow_outcomes.proofs.ranges.cases_in.Goals as goal

pub returns-in_ok-push-in-Some : goal.returns-in_ok-push-in-Some
returns-in_ok-push-in-Some c =
    let two : c.push-in-Some.new.self.items ≡ c.in_ok-one.one ∷ c.in_ok-second-in-Some.second ∷ [] =
    grind (arith, common_steps) in
    behind_in_two c.args.case.now c.in_ok-one.one c.in_ok-second-in-Some.second c.args.ranges c.in-Some.other
    (slice_index_or c.args.number.now 0 []) _ c.in-Some.is two c.in_ok-one.ensures
    c.in_ok-second-in-Some.ensures

pub returns-in-None : goal.returns-in-None
returns-in-None c =
    let one : c.push.new.self.items ≡ c.in_ok-one.one ∷ [] = grind (arith, common_steps) in
    behind_in_one c.args.case.now c.in_ok-one.one c.args.ranges (slice_index_or c.args.number.now 0 []) _ c.in-None.is
    one c.in_ok-one.ensures
