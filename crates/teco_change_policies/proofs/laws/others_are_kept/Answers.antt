use Rattle.teco_change_policies.proofs.Found.{others_are_kept}
use Rattle.teco_change_policies.proofs.laws.others_are_kept.Goals as goal

pub returns : goal.returns
returns c = others_are_kept
