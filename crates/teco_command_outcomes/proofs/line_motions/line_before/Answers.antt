use Rattle.teco_command_outcomes.proofs.Prelude.{refl}
use Rattle.teco_command_outcomes.proofs.Lining.{line_before}
use Rattle.teco_command_outcomes.proofs.line_motions.line_before.Goals as goal

pub returns : goal.returns
returns c =
    line_before c.args.case.now _ _ c.in_ok-here.here _ c.in_ok-cases.ensures (_, refl, refl) (_, refl, refl)
