use Rattle.teco_query_outcomes.proofs.Prelude.{All}
use Rattle.std.proofs.Common.{take}
use Rattle.teco_query_outcomes.specs.Conversions.{GivesAmong}
use Rattle.teco_query_outcomes.proofs.conversions.give_each.Given as goal

-- some number is given in the cases before this one
abbrev pub invariant-loop-case : goal.invariant-loop-case
invariant-loop-case l = All (GivesAmong l.cases.items) (take l.case-index l.behind)
