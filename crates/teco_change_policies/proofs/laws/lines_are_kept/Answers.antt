use Rattle.teco_change_policies.proofs.LineEnds.{lines_are_kept}
use Rattle.teco_change_policies.proofs.laws.lines_are_kept.Goals as goal

pub returns : goal.returns
returns c = lines_are_kept
