use Rattle.teco_command_outcomes.proofs.Prelude.{pos, IfOk-weaker}
use Rattle.teco_command_outcomes.proofs.Copying.{count_is}
use Rattle.teco_command_outcomes.proofs.texts.copy_counted.Goals as goal

pub returns-then-is_number : goal.returns-then-is_number
returns-then-is_number c =
    IfOk-weaker c.copy_line.result _ _
    (λ all told.
    count_is c.args.case.now c.args.register c.args.colons (pos 1) c.args.by all
    (c.is_number.ensures c.if-is_number.true) told)
    c.copy_line.ensures

pub returns-then-is_number-2 : goal.returns-then-is_number-2
returns-then-is_number-2 c =
    IfOk-weaker c.copy_back.result _ _
    (λ all told.
    count_is c.args.case.now c.args.register c.args.colons (pos 0) c.args.by all
    (c.is_number-2.ensures c.if-is_number-2.true) told)
    c.copy_back.ensures
