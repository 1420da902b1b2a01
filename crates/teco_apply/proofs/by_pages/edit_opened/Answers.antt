use Rattle.teco_apply.proofs.Prelude.{Ok, Err, true, refl, AnswersText, EditsPages, order_by}
use Rattle.teco_apply.proofs.ByPages.{behind-goes_on, behind-stops, ends-coded}
use Rattle.teco_apply.proofs.Parts.{parts-same}
use Rattle.teco_apply.proofs.by_pages.edit_opened.Goals as goal

pub returns-in-Ok-false-clause-edits : goal.returns-in-Ok-false-clause-edits
returns-in-Ok-false-clause-edits g c =
    behind-goes_on (AnswersText c.args.plan.now.opening.now)
    (EditsPages c.args.plan.now.pages
    (order_by (g.G.Guard.answers c.args.plan.now.order.now.guard.now) c.args.plan.now.order.now.call.now))
    c.args.machine.now c.answer_text.new.machine c.edit_pages.new.machine
    (g.H.Host.files c.args.host.now) (g.H.Host.files c.answer_text.new.host) (g.H.Host.files c.edit_pages.new.host)
    (g.H.Host.failures c.args.host.now) (g.H.Host.failures c.answer_text.new.host)
    (g.H.Host.failures c.edit_pages.new.host)
    (g.W.Write.contents c.args.writer.now) (g.W.Write.contents c.answer_text.new.writer)
    (g.W.Write.contents c.edit_pages.new.writer)
    c.edit_pages.result (rw c.in-Ok-false.field-0-test at c.in-Ok-false.ensures.answers) c.edit_pages.ensures.edits

pub returns-in-Ok-true-clause-edits : goal.returns-in-Ok-true-clause-edits
returns-in-Ok-true-clause-edits g c =
    behind-stops (AnswersText c.args.plan.now.opening.now)
    (EditsPages c.args.plan.now.pages
    (order_by (g.G.Guard.answers c.args.plan.now.order.now.guard.now) c.args.plan.now.order.now.call.now))
    c.args.machine.now c.answer_text.new.machine (g.H.Host.files c.args.host.now)
    (g.H.Host.files c.answer_text.new.host)
    (g.H.Host.failures c.args.host.now) (g.H.Host.failures c.answer_text.new.host)
    (g.W.Write.contents c.args.writer.now) (g.W.Write.contents c.answer_text.new.writer)
    (Ok true) (Ok c.edited.result) (λ same. cc) (ends-coded c.new.result c.edited.result c.new.ensures c.edited.ensures)
    (rw c.in-Ok-true.field-0-test at c.in-Ok-true.ensures.answers)

pub returns-in-Err-clause-edits : goal.returns-in-Err-clause-edits
returns-in-Err-clause-edits g c =
    behind-stops (AnswersText c.args.plan.now.opening.now)
    (EditsPages c.args.plan.now.pages
    (order_by (g.G.Guard.answers c.args.plan.now.order.now.guard.now) c.args.plan.now.order.now.call.now))
    c.args.machine.now c.answer_text.new.machine (g.H.Host.files c.args.host.now)
    (g.H.Host.files c.answer_text.new.host)
    (g.H.Host.failures c.args.host.now) (g.H.Host.failures c.answer_text.new.host)
    (g.W.Write.contents c.args.writer.now) (g.W.Write.contents c.answer_text.new.writer)
    (Err c.in-Err.fault) (Err c.in-Err.fault) (λ same. cc) refl c.in-Err.ensures.answers

pub returns-in-Ok-false-clause-touches : goal.returns-in-Ok-false-clause-touches
returns-in-Ok-false-clause-touches g c = record {
  mid = c.answer_text.new.machine;
  until = g.H.Host.files c.answer_text.new.host;
  opened = c.in-Ok-false.ensures.touches;
  behind = c.edit_pages.ensures.touches;
}

pub returns-in-Ok-true-clause-touches : goal.returns-in-Ok-true-clause-touches
returns-in-Ok-true-clause-touches g c = record {
  mid = c.answer_text.new.machine;
  until = g.H.Host.files c.answer_text.new.host;
  opened = c.in-Ok-true.ensures.touches;
  behind = parts-same c.args.plan.now.order.now.call.now c.answer_text.new.machine c.answer_text.new.machine
      (g.H.Host.files c.answer_text.new.host) refl;
}

pub returns-in-Err-clause-touches : goal.returns-in-Err-clause-touches
returns-in-Err-clause-touches g c = record {
  mid = c.answer_text.new.machine;
  until = g.H.Host.files c.answer_text.new.host;
  opened = c.in-Err.ensures.touches;
  behind = parts-same c.args.plan.now.order.now.call.now c.answer_text.new.machine c.answer_text.new.machine
      (g.H.Host.files c.answer_text.new.host) refl;
}
