use Rattle.teco_command_outcomes.proofs.Prelude.{refl}
use Rattle.teco_command_outcomes.proofs.Lining.{next_line}
use Rattle.teco_command_outcomes.proofs.line_motions.next_line.Goals as goal

pub returns : goal.returns
returns c =
    next_line c.args.case.now _ _ c.in_ok-here.here _ c.in_ok-cases.ensures (_, refl, refl) (_, refl, refl)
    (_, refl, refl)
