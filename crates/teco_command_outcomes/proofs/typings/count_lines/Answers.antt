use Rattle.teco_command_outcomes.proofs.Writing.{counts_back, counts_line, counts_most}
use Rattle.teco_command_outcomes.proofs.typings.count_lines.Goals as goal

pub returns-then-is_number : goal.returns-then-is_number
returns-then-is_number c =
    counts_line c.args.case.now c.args.by.now c.in_ok-end.end c.in_ok-pointer.pointer c.in_ok-form.form
    (c.is_number.ensures c.if-is_number.true) c.in_ok-end.ensures c.in_ok-pointer.ensures c.in_ok-form.ensures

pub returns-then-is_number-2 : goal.returns-then-is_number-2
returns-then-is_number-2 c =
    counts_back c.args.case.now c.args.by.now c.in_ok-start.start c.in_ok-pointer.pointer c.in_ok-form-2.form
    (c.is_number-2.ensures c.if-is_number-2.true) c.in_ok-start.ensures c.in_ok-pointer.ensures c.in_ok-form-2.ensures

pub returns : goal.returns
returns c = counts_most c.args.case.now c.args.by.now c.in_ok-size.size c.in_ok-size.ensures
