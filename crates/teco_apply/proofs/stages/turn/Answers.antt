use Rattle.teco_apply.proofs.ByPages.{Joined-turned, Joined-untold}
use Rattle.teco_apply.proofs.Parts.{parts-taken}
use Rattle.teco_apply.proofs.Prelude.{by_none, by_string, in_turn}
use Rattle.teco_apply.proofs.stages.turn.Goals as goal

pub returns-in-Err-clause-turns : goal.returns-in-Err-clause-turns
returns-in-Err-clause-turns g c =
    let lines = rw c.not_begun-stopped.ensures at c.tell.ensures.lines in
    let told = rw c.not_begun-stopped.ensures at c.tell.ensures.told in
    Joined-untold c.args.text.now c.args.machine.now c.has_unread.new.self c.tell.new.machine
    (g.H.Host.files c.args.host.now) (g.H.Host.files c.has_unread.new.host)
    (g.H.Host.failures c.args.host.now) (g.H.Host.failures c.has_unread.new.host)
    (g.W.Write.contents c.args.writer.now) (g.W.Write.contents c.tell.new.writer)
    c.in-Err.why c.tell.result c.turned_by-in-Err.result c.turned_by-in-Err.ensures c.in-Err.ensures.counted lines told
    c.tell.ensures.taken c.in-Err.ensures.tells

pub returns-in-Ok-true-clause-turns : goal.returns-in-Ok-true-clause-turns
returns-in-Ok-true-clause-turns g c =
    let tells = rw (c.in-Ok-true.field-0-test) at c.in-Ok-true.ensures.tells in
    Joined-turned c.args.text.now c.args.machine.now c.has_unread.new.self c.answer_text.new.machine
    (g.H.Host.files c.args.host.now) (g.H.Host.files c.has_unread.new.host) (g.H.Host.files c.answer_text.new.host)
    (g.H.Host.failures c.args.host.now) (g.H.Host.failures c.has_unread.new.host)
    (g.H.Host.failures c.answer_text.new.host)
    (g.W.Write.contents c.args.writer.now) (g.W.Write.contents c.answer_text.new.writer)
    c.answer_text.result c.turned_by.result c.turned_by.ensures c.in-Ok-true.ensures.counted tells
    c.answer_text.ensures.answers

pub returns-in-Ok-false-clause-touches : goal.returns-in-Ok-false-clause-touches
returns-in-Ok-false-clause-touches g c = λ call is.
    by_none c.args.machine.now c.has_unread.new.self (g.H.Host.files c.args.host.now)
    (g.H.Host.files c.has_unread.new.host) c.in-Ok-false.ensures.noted

pub returns-in-Ok-true-clause-touches : goal.returns-in-Ok-true-clause-touches
returns-in-Ok-true-clause-touches g c = λ call is.
    in_turn c.args.machine.now c.has_unread.new.self c.answer_text.new.machine
    (g.H.Host.files c.args.host.now) (g.H.Host.files c.has_unread.new.host) (g.H.Host.files c.answer_text.new.host)
    (by_none c.args.machine.now c.has_unread.new.self (g.H.Host.files c.args.host.now)
    (g.H.Host.files c.has_unread.new.host) c.in-Ok-true.ensures.noted)
    (by_string c.args.text.now c.has_unread.new.self c.answer_text.new.machine (g.H.Host.files c.has_unread.new.host)
    (g.H.Host.files c.answer_text.new.host) is c.answer_text.ensures.touches)

pub returns-in-Err-clause-touches : goal.returns-in-Err-clause-touches
returns-in-Err-clause-touches g c = λ call is.
    in_turn c.args.machine.now c.has_unread.new.self c.tell.new.machine
    (g.H.Host.files c.args.host.now) (g.H.Host.files c.has_unread.new.host) (g.H.Host.files c.has_unread.new.host)
    (by_none c.args.machine.now c.has_unread.new.self (g.H.Host.files c.args.host.now)
    (g.H.Host.files c.has_unread.new.host) c.in-Err.ensures.noted)
    (parts-taken call c.has_unread.new.self c.tell.new.machine (g.H.Host.files c.has_unread.new.host)
    c.tell.ensures.taken)
