use Rattle.teco_change_policies.proofs.LineEnds.{line_ends_are_kept}
use Rattle.teco_change_policies.proofs.laws.line_ends_are_kept.Goals as goal

pub returns : goal.returns
returns c = line_ends_are_kept
