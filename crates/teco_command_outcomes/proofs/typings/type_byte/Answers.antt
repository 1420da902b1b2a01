use Rattle.teco_command_outcomes.proofs.Prelude.{arith, common_steps}
use Rattle.teco_command_outcomes.proofs.Writing.{types_byte}
use Rattle.teco_command_outcomes.proofs.typings.type_byte.Goals as goal

pub returns : goal.returns
returns c =
    types_byte c.args.case.now c.args.value.now c.in_ok-form.form c.in_ok-all.all (grind (arith, common_steps))
    c.in_ok-form.ensures c.in_ok-all.ensures.types
