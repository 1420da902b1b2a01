use Rattle.teco_told.specs.Table.{before_in}
use Rattle.teco_told.proofs.NearTables.{LeadsNear}
use Rattle.teco_told.proofs.Ways.{AgreeTo}
use Rattle.teco_told.proofs.nearby.is_near.Given as goal

abbrev pub invariant-loop-number : goal.invariant-loop-number
invariant-loop-number l = AgreeTo l.nodes (LeadsNear (before_in l.arguments) l.table) l.number
