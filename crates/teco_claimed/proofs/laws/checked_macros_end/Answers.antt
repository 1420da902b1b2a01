use Rattle.teco_claimed.proofs.Promised.{checked_ends}
use Rattle.teco_claimed.proofs.laws.checked_macros_end.Goals as goal

pub returns : goal.returns
returns c = checked_ends c.expansions_are_linked.ensures c.certain_ends.ensures
