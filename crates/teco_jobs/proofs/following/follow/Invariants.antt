use Rattle.teco_jobs.specs.Following.{Lists}
use Rattle.teco_run.specs.Executions.{state_at}
use Rattle.teco_run.specs.Holdings.{Joined}
use Rattle.teco_jobs.proofs.following.follow.Given as goal

-- as many steps as turns are listed
abbrev pub invariant-loop-steps : goal.invariant-loop-steps
invariant-loop-steps g l =
    Joined (λ was is. Lists l.steps (state_at l.fn.execution was) (state_at l.execution is)) l.fn.machine l.machine
    (g.H.Host.files l.fn.host) (g.H.Host.files l.host)
