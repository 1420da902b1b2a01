use Rattle.teco_check.proofs.Prelude.{AllByRecursion, RowIsKept}
use Rattle.teco_check.proofs.Arriving.{AreDerived}
use Rattle.teco_check.proofs.derivation.derive.Given as goal

-- the rows of the nodes before this one are derived, and none has facts that are too large
abbrev pub invariant-loop-at : goal.invariant-loop-at
invariant-loop-at l =
    AreDerived l.fn.argument l.nodes l.chosen l.at l.arrived l.table × AllByRecursion RowIsKept l.table
