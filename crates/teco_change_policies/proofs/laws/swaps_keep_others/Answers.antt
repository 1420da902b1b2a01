use Rattle.teco_change_policies.proofs.Found.{swaps_keep_others}
use Rattle.teco_change_policies.proofs.laws.swaps_keep_others.Goals as goal

pub returns : goal.returns
returns c = swaps_keep_others
