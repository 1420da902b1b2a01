use Rattle.teco_command_outcomes.proofs.Prelude.{pos}
use Rattle.teco_command_outcomes.proofs.Cutting.{cuts_before, cuts_known}
use Rattle.teco_command_outcomes.proofs.Deleting.{deletes_counted, deletes_lines, start_within}
use Rattle.teco_command_outcomes.proofs.deletions.delete_lines.Goals as goal

pub returns-then-is_number : goal.returns-then-is_number
returns-then-is_number c =
    deletes_counted c.args.case.now c.args.value c.in_ok-by.by c.in_ok-all.all c.in_ok-by.ensures
    (cuts_known c.args.case.now c.in_ok-by.by (pos 1) c.in_ok-all.all (c.is_number.ensures c.if-is_number.true)
    c.in_ok-all.ensures)

pub returns-then-is_negative : goal.returns-then-is_negative
returns-then-is_negative c =
    deletes_counted c.args.case.now c.args.value c.in_ok-by.by c.in_ok-all-2.all c.in_ok-by.ensures
    (cuts_before c.args.case.now c.in_ok-by.by c.in_ok-all-2.all (c.is_negative.ensures c.if-is_negative.true)
    c.in_ok-all-2.ensures)

pub returns-then-is_number-2 : goal.returns-then-is_number-2
returns-then-is_number-2 c =
    deletes_lines c.args.case.now c.args.value c.in_ok-by.by c.in_ok-start.start (pos 0) c.in_ok-all-3.all
    c.in_ok-by.ensures (c.is_number-2.ensures c.if-is_number-2.true) c.in_ok-start.ensures start_within
    c.in_ok-all-3.ensures.cuts

pub returns : goal.returns
returns c =
    deletes_counted c.args.case.now c.args.value c.in_ok-by.by c.in_ok-all-4.all c.in_ok-by.ensures
    c.in_ok-all-4.ensures
