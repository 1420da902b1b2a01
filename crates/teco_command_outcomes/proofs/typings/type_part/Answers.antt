use Rattle.teco_command_outcomes.proofs.Prelude.{refl}
use Rattle.teco_command_outcomes.proofs.Writing.{types_part}
use Rattle.teco_command_outcomes.proofs.typings.type_part.Goals as goal

pub returns : goal.returns
returns c =
    types_part c.args.case.now _ c.args.first c.args.second c.in_ok-here.here _ c.in_ok-cases.ensures (_, refl, refl)
    (_, refl, refl) c.in_ok-conditions.ensures
