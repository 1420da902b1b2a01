use Rattle.teco_apply.proofs.Prelude.{Ok, Err, true, refl, Gathers, order_by, in_turn}
use Rattle.teco_apply.proofs.ByPages.{behind-goes_on, behind-stops, ends-coded}
use Rattle.teco_apply.specs.ByPages.{FromStart}
use Rattle.teco_apply.proofs.by_pages.edit_whole.Goals as goal

pub returns-in-Ok-false-clause-edits : goal.returns-in-Ok-false-clause-edits
returns-in-Ok-false-clause-edits g c =
    behind-goes_on (Gathers) (FromStart
    (order_by (g.G.Guard.answers c.args.order.now.guard.now) c.args.order.now.call.now))
    c.args.machine.now c.gather.new.machine c.edit_from_start.new.machine
    (g.H.Host.files c.args.host.now) (g.H.Host.files c.gather.new.host) (g.H.Host.files c.edit_from_start.new.host)
    (g.H.Host.failures c.args.host.now) (g.H.Host.failures c.gather.new.host)
    (g.H.Host.failures c.edit_from_start.new.host)
    (g.W.Write.contents c.args.writer.now) (g.W.Write.contents c.gather.new.writer)
    (g.W.Write.contents c.edit_from_start.new.writer)
    c.edit_from_start.result (rw c.in-Ok-false.field-0-test at c.in-Ok-false.ensures.gathers)
    c.edit_from_start.ensures.edits

pub returns-in-Ok-true-clause-edits : goal.returns-in-Ok-true-clause-edits
returns-in-Ok-true-clause-edits g c =
    behind-stops (Gathers) (FromStart
    (order_by (g.G.Guard.answers c.args.order.now.guard.now) c.args.order.now.call.now))
    c.args.machine.now c.gather.new.machine (g.H.Host.files c.args.host.now) (g.H.Host.files c.gather.new.host)
    (g.H.Host.failures c.args.host.now) (g.H.Host.failures c.gather.new.host)
    (g.W.Write.contents c.args.writer.now) (g.W.Write.contents c.gather.new.writer)
    (Ok true) (Ok c.edited.result) (λ same. cc) (ends-coded c.new.result c.edited.result c.new.ensures c.edited.ensures)
    (rw c.in-Ok-true.field-0-test at c.in-Ok-true.ensures.gathers)

pub returns-in-Err-clause-edits : goal.returns-in-Err-clause-edits
returns-in-Err-clause-edits g c =
    behind-stops (Gathers) (FromStart
    (order_by (g.G.Guard.answers c.args.order.now.guard.now) c.args.order.now.call.now))
    c.args.machine.now c.gather.new.machine (g.H.Host.files c.args.host.now) (g.H.Host.files c.gather.new.host)
    (g.H.Host.failures c.args.host.now) (g.H.Host.failures c.gather.new.host)
    (g.W.Write.contents c.args.writer.now) (g.W.Write.contents c.gather.new.writer)
    (Err c.in-Err.fault) (Err c.in-Err.fault) (λ same. cc) refl c.in-Err.ensures.gathers

pub returns-in-Ok-false-clause-touches : goal.returns-in-Ok-false-clause-touches
returns-in-Ok-false-clause-touches g c =
    in_turn c.args.machine.now c.gather.new.machine c.edit_from_start.new.machine
    (g.H.Host.files c.args.host.now) (g.H.Host.files c.gather.new.host) (g.H.Host.files c.edit_from_start.new.host)
    (c.in-Ok-false.ensures.touches c.args.order.now.call.now) c.edit_from_start.ensures.touches

pub returns-in-Ok-true-clause-touches : goal.returns-in-Ok-true-clause-touches
returns-in-Ok-true-clause-touches g c = c.in-Ok-true.ensures.touches c.args.order.now.call.now

pub returns-in-Err-clause-touches : goal.returns-in-Err-clause-touches
returns-in-Err-clause-touches g c = c.in-Err.ensures.touches c.args.order.now.call.now
