use Rattle.teco_changes.proofs.Replaced.{replacements_are_told}
use Rattle.teco_changes.proofs.laws.replacements_are_told.Goals as goal

pub returns : goal.returns
returns c = replacements_are_told
