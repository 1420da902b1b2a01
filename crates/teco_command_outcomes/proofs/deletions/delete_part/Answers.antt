use Rattle.teco_command_outcomes.proofs.Deleting.{deletes_from_pointer, deletes_to_pointer, placed_by}
use Rattle.teco_command_outcomes.proofs.deletions.delete_part.Goals as goal

pub returns-then-branch : goal.returns-then-branch
returns-then-branch c =
    deletes_to_pointer c.args.case.now c.args.first c.args.second c.in_ok-all.all
    (c.in_ok-is_pointer.ensures c.if-branch.true)
    (placed_by c.args.case.now c.args.first _ c.in_ok-all.all c.in_ok-all.ensures.conditions c.in_ok-conditions.ensures)
    c.in_ok-all.ensures.cuts

pub returns-then-branch-2 : goal.returns-then-branch-2
returns-then-branch-2 c =
    deletes_from_pointer c.args.case.now c.args.first c.args.second c.in_ok-all-2.all
    (c.in_ok-is_pointer-2.ensures c.if-branch-2.true)
    (placed_by c.args.case.now c.args.second _ c.in_ok-all-2.all c.in_ok-all-2.ensures.conditions
    c.in_ok-conditions-2.ensures)
    c.in_ok-all-2.ensures.cuts
