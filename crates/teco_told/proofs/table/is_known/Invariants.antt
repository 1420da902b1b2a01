use Rattle.teco_told.proofs.Tables.{LeadsBy}
use Rattle.teco_told.proofs.Ways.{AgreeTo}
use Rattle.teco_told.proofs.table.is_known.Given as goal

abbrev pub invariant-loop-number : goal.invariant-loop-number
invariant-loop-number l = AgreeTo l.nodes (LeadsBy l.table) l.number
