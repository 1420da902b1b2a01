use Rattle.teco_change_policies.proofs.LineEnds.{swaps_keep_lines}
use Rattle.teco_change_policies.proofs.laws.swaps_keep_lines.Goals as goal

pub returns : goal.returns
returns c = swaps_keep_lines
