use Rattle.teco_motion_outcomes.proofs.Prelude.{◌≡◌, refl, arith, common_steps}
use Rattle.teco_motion_outcomes.proofs.Inserting.{gets}
use Rattle.teco_motion_outcomes.proofs.insertions.get.Goals as goal

pub returns : goal.returns
returns c =
    let none : c.args.colons ≡ 0 = grind (arith, common_steps) in
    gets c.args.case.now _ c.args.taken c.args.register c.args.colons c.in_ok-long.long c.in_ok-here.here _
    c.in_ok-cases.ensures (_, refl, refl) none c.in_ok-long.ensures c.in_ok-conditions.ensures
