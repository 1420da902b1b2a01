use Rattle.teco_law_runs.proofs.Leading.{ways_lead}
use Rattle.teco_law_runs.proofs.laws.ways_lead.Goals as goal

pub returns : goal.returns
returns c = ways_lead
