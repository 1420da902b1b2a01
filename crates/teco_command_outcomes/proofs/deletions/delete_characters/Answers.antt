use Rattle.teco_command_outcomes.proofs.Deleting.{deletes_characters, placed_by}
use Rattle.teco_command_outcomes.proofs.Passing.{cuts_by_one}
use Rattle.teco_command_outcomes.proofs.deletions.delete_characters.Goals as goal

pub returns-then-branch : goal.returns-then-branch
returns-then-branch c =
    deletes_characters c.args.case.now c.args.value c.in_ok-by.by c.in_ok-pointer.pointer c.in_ok-place.place
    c.in_ok-all.all c.in_ok-by.ensures c.in_ok-pointer.ensures c.in_ok-place.ensures
    (placed_by c.args.case.now c.in_ok-place.place _ c.in_ok-all.all c.in_ok-all.ensures.conditions
    c.in_ok-conditions.ensures)
    (cuts_by_one c.args.case.now c.in_ok-place.place c.in_ok-all.all (c.in_ok-is_by.ensures c.if-branch.true)
    c.in_ok-all.ensures.cuts)

pub returns : goal.returns
returns c =
    deletes_characters c.args.case.now c.args.value c.in_ok-by.by c.in_ok-pointer.pointer c.in_ok-place.place
    c.in_ok-all-2.all c.in_ok-by.ensures c.in_ok-pointer.ensures c.in_ok-place.ensures
    (placed_by c.args.case.now c.in_ok-place.place _ c.in_ok-all-2.all c.in_ok-all-2.ensures.conditions
    c.in_ok-conditions.ensures)
    c.in_ok-all-2.ensures.cuts
