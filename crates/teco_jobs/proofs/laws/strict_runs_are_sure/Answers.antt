use Rattle.teco_jobs.proofs.Strict.{strict-runs}
use Rattle.teco_jobs.proofs.laws.strict_runs_are_sure.Goals as goal

pub returns : goal.returns
returns c = strict-runs c.values_grow.ensures
