use Rattle.teco_jobs.proofs.Steps.{lists_all, lists_more, lists_none}
use Rattle.teco_jobs.proofs.following.follow.Goals as goal

pub loop-steps-init : goal.loop-steps-init
loop-steps-init g c = lists_none c.args.execution.now c.args.machine.now (g.H.Host.files c.args.host.now)

pub loop-steps-preserved : goal.loop-steps-preserved
loop-steps-preserved g c =
    lists_more c.loop-steps.steps c.args.execution.now c.loop-steps.execution c.advance.new.execution
    c.args.machine.now c.loop-steps.machine c.advance.new.machine
    (g.H.Host.files c.args.host.now) (g.H.Host.files c.loop-steps.host) (g.H.Host.files c.advance.new.host)
    c.loop-steps.invariant (rw c.in-Ok-None.field-0-is at c.in-Ok-None.ensures)

pub returns-in-Ok-Some : goal.returns-in-Ok-Some
returns-in-Ok-Some g c =
    lists_all c.loop-steps.steps c.in-Ok-Some.stop c.args.execution.now c.loop-steps.execution
    c.args.machine.now c.loop-steps.machine c.advance.new.machine
    (g.H.Host.files c.args.host.now) (g.H.Host.files c.loop-steps.host) (g.H.Host.files c.advance.new.host)
    c.loop-steps.invariant (rw c.in-Ok-Some.field-0-is at c.in-Ok-Some.ensures)
