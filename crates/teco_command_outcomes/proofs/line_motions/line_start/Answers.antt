use Rattle.teco_command_outcomes.proofs.Prelude.{refl}
use Rattle.teco_command_outcomes.proofs.Lining.{line_start}
use Rattle.teco_command_outcomes.proofs.line_motions.line_start.Goals as goal

pub returns : goal.returns
returns c =
    line_start c.args.case.now _ _ c.in_ok-here.here _ c.in_ok-cases.ensures (_, refl, refl)
