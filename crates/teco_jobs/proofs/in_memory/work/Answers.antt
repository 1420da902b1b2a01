use Rattle.std.proofs.lemmas.Result.{IfOk-weaker}
use Rattle.teco_jobs.proofs.InMemory.{worked}
use Rattle.teco_jobs.proofs.in_memory.work.Goals as goal

pub returns : goal.returns
returns g c = IfOk-weaker c.open_and_call.result _ _
    (λ code opens. worked c.args.subject.now code c.args.machine.now c.prepare.new.machine c.open_and_call.new.machine
    (g.H.Host.files c.args.host.now) (g.H.Host.files c.prepare.new.host) (g.H.Host.files c.open_and_call.new.host)
    c.in_ok-prepare.ensures.prepares opens)
    c.open_and_call.ensures
