use Rattle.std.proofs.Common.{◌∙◌}
use Rattle.teco_jobs.proofs.Steps.{follows_macro}
use Rattle.teco_jobs.proofs.tracing.follow_macro.Goals as goal

pub returns : goal.returns
returns g c =
    follows_macro c.args.task.now c.args.most c.as_slice-command.result.now c.in_ok-execution.execution
    c.follow.new.execution c.args.machine.now c.follow.new.machine
    (g.H.Host.files c.args.host.now) (g.H.Host.files c.follow.new.host) c.follow.result
    (c.as_slice-command.ensures.value ∙ c.in_ok-text.ensures) c.in_ok-execution.ensures c.follow.ensures
