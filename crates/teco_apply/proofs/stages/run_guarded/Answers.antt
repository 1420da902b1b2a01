use Rattle.teco_apply.proofs.Prelude.{ap, rules, Order, order_by, Holdings}
use Rattle.teco_apply.proofs.ByPages.{Joined-admitted, Joined-asked, Joined-unready}
use Rattle.teco_apply.proofs.Parts.{asked-touches, called-touches, parts-same}
use Rattle.teco_apply.proofs.stages.run_guarded.Goals as goal

pub returns-in-Err-clause-stops : goal.returns-in-Err-clause-stops
returns-in-Err-clause-stops g c =
    let order : Order = order_by (g.G.Guard.answers c.args.order.now.guard.now) c.args.order.now.call.now in
    rw (c.not_begun.ensures, c.stop_of.ensures, c.in-Err.ensures.err)
    (Joined-unready order c.args.machine.now (g.H.Host.files c.args.host.now) c.in-Err.not_ready c.requires
    c.in-Err.ensures.answer)

pub returns-then-not-asked-clause-stops : goal.returns-then-not-asked-clause-stops
returns-then-not-asked-clause-stops g c =
    let order : Order = order_by (g.G.Guard.answers c.args.order.now.guard.now) c.args.order.now.call.now in
    Joined-asked order c.args.machine.now c.make_ready.new.machine (g.H.Host.files c.args.host.now)
    (g.H.Host.files c.ask-asked.new.host)
    c.ask-asked.result.admitted c.in_default.ensures.loaded (search rules) c.ask-asked.ensures.asked

pub returns-clause-stops : goal.returns-clause-stops
returns-clause-stops g c =
    let order : Order = order_by (g.G.Guard.answers c.args.order.now.guard.now) c.args.order.now.call.now in
    Joined-admitted order c.args.machine.now c.make_ready.new.machine c.call_promised.new.machine
    (g.H.Host.files c.args.host.now) (g.H.Host.files c.ask-asked.new.host) (g.H.Host.files c.call_promised.new.host)
    c.ask-asked.result.admitted c.call_promised.result.stop c.in_default.ensures.loaded (search rules)
    c.ask-asked.ensures.asked c.call_promised.ensures.calls

pub returns-then-not-asked-clause-touches : goal.returns-then-not-asked-clause-touches
returns-then-not-asked-clause-touches g c =
    asked-touches c.args.order.now.call.now c.args.machine.now c.make_ready.new.machine (g.H.Host.files c.args.host.now)
    (g.H.Host.files c.ask-asked.new.host)
    c.in_default.ensures.loaded c.ask-asked.ensures.touches

pub returns-clause-touches : goal.returns-clause-touches
returns-clause-touches g c =
    called-touches c.args.order.now.call.now c.args.machine.now c.make_ready.new.machine c.call_promised.new.machine
    (g.H.Host.files c.args.host.now) (g.H.Host.files c.ask-asked.new.host) (g.H.Host.files c.call_promised.new.host)
    c.in_default.ensures.loaded c.ask-asked.ensures.touches c.call_promised.ensures.touches

pub returns-in-Err-clause-touches : goal.returns-in-Err-clause-touches
returns-in-Err-clause-touches g c =
    parts-same c.args.order.now.call.now c.args.machine.now c.make_ready.new.machine (g.H.Host.files c.args.host.now)
    (ap (λ (h : Holdings). h.held) c.in-Err.ensures.err)
