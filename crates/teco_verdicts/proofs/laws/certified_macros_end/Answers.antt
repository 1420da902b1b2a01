use Rattle.teco_verdicts.proofs.Ending.{certified_macros_end}
use Rattle.teco_verdicts.proofs.laws.certified_macros_end.Goals as goal

pub returns : goal.returns
returns c = certified_macros_end c.expansions_are_linked.ensures c.runs_are_verified.ensures
