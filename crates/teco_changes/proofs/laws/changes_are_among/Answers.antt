use Rattle.teco_changes.proofs.Closure.{changes_are_among}
use Rattle.teco_changes.proofs.laws.changes_are_among.Goals as goal

pub returns : goal.returns
returns c = changes_are_among
