use Rattle.teco_jobs.specs.Openings.{AddsPages}
use Rattle.teco_run.specs.Holdings.{Joined}
use Rattle.teco_jobs.proofs.opening.add_pages.Given as goal

-- pages were added, and no code came of one
abbrev pub invariant-loop : goal.invariant-loop
invariant-loop g l =
    Joined AddsPages l.initial.machine l.machine (g.H.Host.files l.initial.host) (g.H.Host.files l.host)
