use Rattle.teco_apply.proofs.Prelude.{Ok, Err, refl, ap, Closing, order_by, in_turn}
use Rattle.teco_apply.proofs.ByPages.{macro-goes_on, macro-stops}
use Rattle.teco_apply.specs.declared.stages.Ran.TheVariants as ran
use Rattle.teco_apply.proofs.by_pages.edit_once.Goals as goal

pub returns-in-Ok-On-clause-edits : goal.returns-in-Ok-On-clause-edits
returns-in-Ok-On-clause-edits g c =
    rw c.new-done.ensures at
    (macro-goes_on (order_by (g.G.Guard.answers c.args.order.now.guard.now) c.args.order.now.call.now) c.new-done.result
    Closing
    c.args.machine.now c.run_admitted.new.machine c.close.new.machine
    (g.H.Host.files c.args.host.now) (g.H.Host.files c.run_admitted.new.host) (g.H.Host.files c.close.new.host)
    (g.H.Host.failures c.args.host.now) (g.H.Host.failures c.run_admitted.new.host) (g.H.Host.failures c.close.new.host)
    (g.W.Write.contents c.args.writer.now) (g.W.Write.contents c.run_admitted.new.writer)
    (g.W.Write.contents c.close.new.writer)
    c.in-Ok-On.steps c.close.result (rw c.in-Ok-On.field-0-is at c.in-Ok-On.ensures.runs)
    (rw c.after.ensures at c.close.ensures.closes))

pub returns-in-Ok-Coded-clause-edits : goal.returns-in-Ok-Coded-clause-edits
returns-in-Ok-Coded-clause-edits g c =
    rw c.new-done.ensures at
    (macro-stops (order_by (g.G.Guard.answers c.args.order.now.guard.now) c.args.order.now.call.now) c.new-done.result
    Closing
    c.args.machine.now c.run_admitted.new.machine (g.H.Host.files c.args.host.now)
    (g.H.Host.files c.run_admitted.new.host)
    (g.H.Host.failures c.args.host.now) (g.H.Host.failures c.run_admitted.new.host)
    (g.W.Write.contents c.args.writer.now) (g.W.Write.contents c.run_admitted.new.writer)
    (Ok ran.Coded) (Ok c.edited.result) (ap Ok c.edited.ensures)
    (rw c.in-Ok-Coded.field-0-is at c.in-Ok-Coded.ensures.runs))

pub returns-in-Ok-Refused-clause-edits : goal.returns-in-Ok-Refused-clause-edits
returns-in-Ok-Refused-clause-edits g c =
    rw c.new-done.ensures at
    (macro-stops (order_by (g.G.Guard.answers c.args.order.now.guard.now) c.args.order.now.call.now) c.new-done.result
    Closing
    c.args.machine.now c.run_admitted.new.machine (g.H.Host.files c.args.host.now)
    (g.H.Host.files c.run_admitted.new.host)
    (g.H.Host.failures c.args.host.now) (g.H.Host.failures c.run_admitted.new.host)
    (g.W.Write.contents c.args.writer.now) (g.W.Write.contents c.run_admitted.new.writer)
    (Ok ran.Refused) (Ok c.edited-in-Ok-Refused.result) (ap Ok c.edited-in-Ok-Refused.ensures)
    (rw c.in-Ok-Refused.field-0-is at c.in-Ok-Refused.ensures.runs))

pub returns-in-Err-clause-edits : goal.returns-in-Err-clause-edits
returns-in-Err-clause-edits g c =
    rw c.new-done.ensures at
    (macro-stops (order_by (g.G.Guard.answers c.args.order.now.guard.now) c.args.order.now.call.now) c.new-done.result
    Closing
    c.args.machine.now c.run_admitted.new.machine (g.H.Host.files c.args.host.now)
    (g.H.Host.files c.run_admitted.new.host)
    (g.H.Host.failures c.args.host.now) (g.H.Host.failures c.run_admitted.new.host)
    (g.W.Write.contents c.args.writer.now) (g.W.Write.contents c.run_admitted.new.writer)
    (Err c.in-Err.fault) (Err c.in-Err.fault) refl c.in-Err.ensures.runs)

pub returns-in-Ok-On-clause-touches : goal.returns-in-Ok-On-clause-touches
returns-in-Ok-On-clause-touches g c =
    in_turn c.args.machine.now c.run_admitted.new.machine c.close.new.machine
    (g.H.Host.files c.args.host.now) (g.H.Host.files c.run_admitted.new.host) (g.H.Host.files c.close.new.host)
    c.in-Ok-On.ensures.touches (c.close.ensures.touches c.args.order.now.call.now)
