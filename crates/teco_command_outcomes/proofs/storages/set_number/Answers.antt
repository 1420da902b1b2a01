use Rattle.teco_command_outcomes.proofs.Prelude.{IfOk-weaker}
use Rattle.teco_command_outcomes.proofs.Storing.{sets_number}
use Rattle.teco_command_outcomes.proofs.storages.set_number.Goals as goal

pub returns-in-Some : goal.returns-in-Some
returns-in-Some c =
    IfOk-weaker c.one.result _ _
    (λ all one e.
    sets_number c.args.case.now c.in_ok-after-in-Some.after c.args.taken c.args.register c.in_ok-here.here
    c.in-Some.value _ all e c.in_ok-here.ensures.register c.in_ok-here.ensures.within c.in-Some.is
    c.in_ok-after-in-Some.ensures one)
    c.one.ensures
