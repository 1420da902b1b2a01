use Rattle.teco_rows.proofs.Prelude.{take, Adds}
use Rattle.teco_rows.proofs.applied.applied.Given as goal

-- what the clauses before this one make is there
abbrev pub invariant-loop-clause : goal.invariant-loop-clause
invariant-loop-clause l = Adds l.case l.step (take l.clause-index l.step.clauses.now) l.initial.draft l.draft
