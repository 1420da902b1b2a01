use Rattle.teco_change_policies.proofs.Found.{others_are_left}
use Rattle.teco_change_policies.proofs.laws.others_are_left.Goals as goal

pub returns : goal.returns
returns c = others_are_left
