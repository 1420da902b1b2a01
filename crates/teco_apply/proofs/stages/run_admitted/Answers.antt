use Rattle.teco_apply.proofs.Parts.{parts-taken}
use Rattle.teco_apply.proofs.Prelude.{order_by, in_turn}
use Rattle.teco_apply.proofs.ByPages.{Joined-refused, Joined-runs}
use Rattle.teco_apply.proofs.stages.run_admitted.Goals as goal

pub returns-clause-runs : goal.returns-clause-runs
returns-clause-runs g c =
    Joined-runs (order_by (g.G.Guard.answers c.args.order.now.guard.now) c.args.order.now.call.now)
    c.args.machine.now c.run_guarded.new.machine c.tell-line.new.machine
    (g.H.Host.files c.args.host.now) (g.H.Host.files c.run_guarded.new.host)
    (g.H.Host.failures c.args.host.now) (g.H.Host.failures c.run_guarded.new.host)
    (g.W.Write.contents c.args.writer.now) (g.W.Write.contents c.tell-line.new.writer)
    c.in-Some.stopped.stop c.tell-line.result c.ran_by.result c.ran_by.ensures c.in-Some.ensures.counted
    c.tell-line.ensures.lines c.tell-line.ensures.told c.tell-line.ensures.taken c.in-Some.ensures.stops

pub returns-in_default-clause-runs : goal.returns-in_default-clause-runs
returns-in_default-clause-runs g c =
    Joined-refused (order_by (g.G.Guard.answers c.args.order.now.guard.now) c.args.order.now.call.now)
    c.args.machine.now c.run_guarded.new.machine (g.H.Host.files c.args.host.now)
    (g.H.Host.files c.run_guarded.new.host)
    (g.H.Host.failures c.args.host.now) (g.H.Host.failures c.run_guarded.new.host)
    (g.W.Write.contents c.args.writer.now)
    c.in_default.ensures.counted c.in_default.ensures.stops

pub returns-clause-touches : goal.returns-clause-touches
returns-clause-touches g c =
    in_turn c.args.machine.now c.run_guarded.new.machine c.tell-line.new.machine
    (g.H.Host.files c.args.host.now) (g.H.Host.files c.run_guarded.new.host) (g.H.Host.files c.run_guarded.new.host)
    c.in-Some.ensures.touches
    (parts-taken c.args.order.now.call.now c.run_guarded.new.machine c.tell-line.new.machine
    (g.H.Host.files c.run_guarded.new.host) c.tell-line.ensures.taken)
