use Rattle.teco_motion_outcomes.proofs.Prelude.{◌≡◌, [], ◌∷◌, arith, common_steps}
use Rattle.teco_motion_outcomes.proofs.Inserting.{has_room}
use Rattle.teco_motion_outcomes.proofs.insertions.room.Goals as goal

pub returns : goal.returns
returns c =
    let one : c.push.new.self.items ≡ c.in_ok-left.left ∷ [] = grind (arith, common_steps) in
    has_room c.args.case.now c.args.long.now c.in_ok-size.size c.in_ok-most.most c.in_ok-free.free c.in_ok-left.left
    c.push.new.self.items one c.in_ok-size.ensures c.in_ok-most.ensures c.in_ok-free.ensures c.in_ok-left.ensures
