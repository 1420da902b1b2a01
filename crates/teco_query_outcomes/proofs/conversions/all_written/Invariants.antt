use Rattle.teco_query_outcomes.proofs.Prelude.{[], slice_index_or, All}
use Rattle.std.proofs.Common.{take}
use Rattle.teco_query_outcomes.specs.declared.conversions.TheConstants.{SPANS}
use Rattle.teco_query_outcomes.specs.Conversions.{IsWrittenAmong}
use Rattle.teco_query_outcomes.proofs.conversions.all_written.Given as goal

-- a number within the bounds before these is written
abbrev pub invariant-loop-span : goal.invariant-loop-span
invariant-loop-span l =
    All (IsWrittenAmong l.case (slice_index_or l.number 0 []) l.cases.items) (take l.span-index SPANS)
