use Rattle.teco_change_policies.proofs.Subsequent.{nothing_is_added}
use Rattle.teco_change_policies.proofs.laws.nothing_is_added.Goals as goal

pub returns : goal.returns
returns c = nothing_is_added
