use Rattle.teco_motion_outcomes.proofs.Moving.{back_by_one, by_one, goes, placed_in}
use Rattle.teco_motion_outcomes.proofs.motions.go.Goals as goal

pub returns-then-branch : goal.returns-then-branch
returns-then-branch c =
    goes c.args.case.now c.args.place c.in_ok-all.all
    (placed_in c.args.case.now c.args.place _ c.in_ok-all.all c.in_ok-all.ensures.conditions c.in_ok-conditions.ensures)
    (by_one c.args.case.now c.args.place c.in_ok-all.all (c.in_ok-is_by.ensures c.if-branch.true)
    c.in_ok-all.ensures.passes)

pub returns-then-branch-2 : goal.returns-then-branch-2
returns-then-branch-2 c =
    goes c.args.case.now c.args.place c.in_ok-all-2.all
    (placed_in c.args.case.now c.args.place _ c.in_ok-all-2.all c.in_ok-all-2.ensures.conditions
    c.in_ok-conditions.ensures)
    (back_by_one c.args.case.now c.args.place c.in_ok-all-2.all (c.in_ok-is_by-2.ensures c.if-branch-2.true)
    c.in_ok-all-2.ensures.returns)

pub returns : goal.returns
returns c =
    goes c.args.case.now c.args.place c.in_ok-all-3.all
    (placed_in c.args.case.now c.args.place _ c.in_ok-all-3.all c.in_ok-all-3.ensures.conditions
    c.in_ok-conditions.ensures)
    c.in_ok-all-3.ensures.goes
