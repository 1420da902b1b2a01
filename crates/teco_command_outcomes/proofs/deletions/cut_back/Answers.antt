use Rattle.teco_command_outcomes.proofs.Prelude.{refl}
use Rattle.teco_command_outcomes.proofs.Cutting.{cut_back}
use Rattle.teco_command_outcomes.proofs.deletions.cut_back.Goals as goal

pub returns : goal.returns
returns c =
    cut_back c.args.case.now _ c.in_ok-here.here _ c.in_ok-cases.ensures (_, refl, refl) (_, refl, refl)
