use Rattle.teco_motion_outcomes.proofs.Prelude.{IfOk-weaker, []}
use Rattle.teco_motion_outcomes.proofs.Changing.{tells}
use Rattle.teco_motion_outcomes.proofs.changes.told.Goals as goal

pub returns : goal.returns
returns c =
    IfOk-weaker c.command.result _ _
    (λ made led x same. tells c.args.case.now made x c.args.answer.now [] c.in_ok-here.here same
    c.in_ok-here.ensures led)
    c.command.ensures
