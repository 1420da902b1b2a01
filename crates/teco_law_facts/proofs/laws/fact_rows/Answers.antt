use Rattle.teco_law_facts.proofs.Worked.{fact_rows}
use Rattle.teco_law_facts.proofs.laws.fact_rows.Goals as goal

pub returns : goal.returns
returns c = fact_rows
