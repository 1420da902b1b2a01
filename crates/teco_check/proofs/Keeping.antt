-- Rows none of which has facts that are too large.
use Rattle.teco_check.proofs.Prelude.{[], ◌∷◌, ◌++◌, AllByRecursion, RowIsKept, Row, Table}

pub one_more : (table : Table) (row : Row) → AllByRecursion RowIsKept table → RowIsKept row
    → AllByRecursion RowIsKept (table ++ row ∷ [])
one_more [] row all kept = (kept, tt)
one_more (first ∷ table) row all kept = (all.0, one_more table row all.1 kept)
