use Rattle.teco_told.proofs.Tables.{LeadsBy}
use Rattle.teco_told.proofs.Ways.{AgreesTo}
use Rattle.teco_told.proofs.table.goes_on.Given as goal

abbrev pub invariant-loop-at : goal.invariant-loop-at
invariant-loop-at l = AgreesTo l.nodes (LeadsBy l.table) l.number l.at
