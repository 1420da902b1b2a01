use Rattle.teco_command_outcomes.proofs.Prelude.{refl}
use Rattle.teco_command_outcomes.proofs.Cutting.{cut_line}
use Rattle.teco_command_outcomes.proofs.deletions.cut_line.Goals as goal

pub returns : goal.returns
returns c =
    cut_line c.args.case.now _ c.in_ok-here.here _ c.in_ok-cases.ensures (_, refl, refl) (_, refl, refl)
