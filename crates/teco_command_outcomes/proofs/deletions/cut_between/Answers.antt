use Rattle.teco_command_outcomes.proofs.Prelude.{refl}
use Rattle.teco_command_outcomes.proofs.Deleting.{deletes_between}
use Rattle.teco_command_outcomes.proofs.deletions.cut_between.Goals as goal

pub returns : goal.returns
returns c =
    deletes_between c.args.case.now _ c.args.first c.args.second c.in_ok-here.here _ c.in_ok-cases.ensures
    (_, refl, refl) (_, refl, refl) c.in_ok-conditions.ensures
