use Rattle.teco_change_policies.proofs.Subsequent.{only_these_are_added}
use Rattle.teco_change_policies.proofs.laws.only_these_are_added.Goals as goal

pub returns : goal.returns
returns c = only_these_are_added
