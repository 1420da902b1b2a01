use Rattle.teco_command_outcomes.proofs.Prelude.{refl}
use Rattle.teco_command_outcomes.proofs.Lining.{by_lines}
use Rattle.teco_command_outcomes.proofs.line_motions.by_lines.Goals as goal

pub returns : goal.returns
returns c =
    by_lines c.args.case.now _ c.args.by c.in_ok-here.here _ c.in_ok-cases.ensures (_, refl, refl) (_, refl, refl)
