use Rattle.teco_changes.proofs.Closure.{changes_stand_anywhere}
use Rattle.teco_changes.proofs.laws.changes_stand_anywhere.Goals as goal

pub returns : goal.returns
returns c = changes_stand_anywhere
