use Rattle.teco_command_outcomes.proofs.Prelude.{arith, common_steps}
use Rattle.teco_command_outcomes.proofs.Writing.{register_typed}
use Rattle.teco_command_outcomes.proofs.typings.type_register.Goals as goal

pub returns : goal.returns
returns c =
    register_typed c.args.case.now c.args.taken c.args.register c.args.colons c.in_ok-form.form c.in_ok-all.all
    (grind (arith, common_steps)) c.in_ok-form.ensures c.in_ok-all.ensures.types
