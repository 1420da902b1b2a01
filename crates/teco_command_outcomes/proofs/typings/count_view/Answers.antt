use Rattle.teco_command_outcomes.proofs.Writing.{counts_in_view, counts_view}
use Rattle.teco_command_outcomes.proofs.typings.count_view.Goals as goal

pub returns-then-is_number : goal.returns-then-is_number
returns-then-is_number c =
    counts_in_view c.args.case.now c.args.by.now c.in_ok-start.start c.in_ok-end.end c.in_ok-form.form
    (c.is_number.ensures c.if-is_number.true) c.in_ok-start.ensures c.in_ok-end.ensures c.in_ok-form.ensures

pub returns : goal.returns
returns c = counts_view c.args.case.now c.args.by.now c.in_ok-size.size c.in_ok-size.ensures
