-- Each step keeps what is whole, and so does each run.
use Rattle.teco_law_runs.proofs.Prelude.{ℕ, zero, suc, subst, State, Outcome, Next}
use Rattle.teco_model.proofs.upkeep.Levels.{no_arguments_fit}
use Rattle.teco_model.proofs.upkeep.Replies.{step_whole}
use Rattle.teco_model.specs.Run as runs
use Rattle.teco_law_runs.specs.Wholeness.{IsWholeState, IsWholeOutcome, WholeIsKept}

go_on_whole : (o : Outcome) → IsWholeOutcome o → IsWholeOutcome (runs.go_on o)
go_on_whole (Next s) h = step_whole s h
go_on_whole o h = h

run_whole : (n : ℕ) (s : State) → IsWholeState s → IsWholeOutcome (runs.run n s)
unfolding runs.run
run_whole zero s h = h
run_whole (suc n) s h = go_on_whole (runs.run n s) (run_whole n s h)

pub whole_is_kept : WholeIsKept
whole_is_kept = record {
  starts = λ command world b w. record {
    world = w;
    arguments = no_arguments_fit (Unit {0}) tt;
    frames = record { running = b; callers = tt };
  };
  steps = step_whole;
  runs = λ n s t h r. subst IsWholeOutcome r (run_whole n s h);
}
