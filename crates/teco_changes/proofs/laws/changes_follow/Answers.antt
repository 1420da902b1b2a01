use Rattle.teco_changes.proofs.Closure.{changes_follow}
use Rattle.teco_changes.proofs.laws.changes_follow.Goals as goal

pub returns : goal.returns
returns c = changes_follow
