use Rattle.teco_told.specs.Table.{before_in}
use Rattle.teco_told.proofs.NearTables.{LeadsNear}
use Rattle.teco_told.proofs.Ways.{AgreesTo}
use Rattle.teco_told.proofs.nearby.goes_on_near.Given as goal

abbrev pub invariant-loop-at : goal.invariant-loop-at
invariant-loop-at l = AgreesTo l.nodes (LeadsNear (before_in l.arguments) l.table) l.number l.at
