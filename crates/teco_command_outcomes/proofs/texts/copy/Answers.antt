use Rattle.teco_command_outcomes.proofs.Prelude.{IfOk-weaker}
use Rattle.teco_command_outcomes.proofs.Copying.{performs_lines, performs_part}
use Rattle.teco_command_outcomes.proofs.texts.copy.Goals as goal

pub returns-in-Some-value : goal.returns-in-Some-value
returns-in-Some-value c =
    IfOk-weaker c.copy_part.result _ _
    (λ all told.
    performs_part c.args.case.now c.args.taken c.args.register c.args.colons c.in-Some.first c.in-Some-value.second all
    c.in-Some.is c.in-Some-value.is told)
    c.copy_part.ensures

pub returns-in_ok-by-in-None : goal.returns-in_ok-by-in-None
returns-in_ok-by-in-None c =
    IfOk-weaker c.copy_counted.result _ _
    (λ all told.
    performs_lines c.args.case.now c.args.taken c.args.register c.args.colons c.in_ok-by-in-None.by all c.in-None.is
    c.in_ok-by-in-None.ensures told)
    c.copy_counted.ensures
