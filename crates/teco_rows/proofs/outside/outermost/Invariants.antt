use Rattle.teco_rows.proofs.Prelude.{◌-◌}
use Rattle.teco_rows.proofs.Closing.{IsReached}
use Rattle.teco_rows.proofs.outside.outermost.Given as goal

-- so many levels but one are gone
abbrev pub invariant-loop-done : goal.invariant-loop-done
invariant-loop-done l = IsReached l.case l.done l.outermost

abbrev pub decreases-loop-done : goal.decreases-loop-done
decreases-loop-done l = l.depth - l.done
