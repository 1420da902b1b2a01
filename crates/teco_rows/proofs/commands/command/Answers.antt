use Rattle.teco_rows.proofs.Prelude.{rules, IfOk-weaker, row_of}
use Rattle.teco_rows.proofs.Commanding.{is_commanded}
use Rattle.teco_rows.proofs.commands.command.Goals as goal

pub returns : goal.returns
returns c =
    IfOk-weaker c.led.result _ _
    (λ after led. is_commanded c.args.case.now after _ (row_of c.args.way.now)
    (search rules) c.requires.level led) c.led.ensures
