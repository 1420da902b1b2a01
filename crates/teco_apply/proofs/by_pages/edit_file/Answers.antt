use Rattle.teco_apply.proofs.Prelude.{◌≡◌, Err, rules, refl, subst, FileEdited, PagesCount, order_by, World}
use Rattle.teco_apply.proofs.Prelude.{Joined-stays}
use Rattle.teco_apply.proofs.ByPages.{Joined-file}
use Rattle.teco_apply.proofs.Parts.{edit-touches}
use Rattle.teco_session.specs.declared.fault.SessionFault.TheVariants as fault
use Rattle.teco_apply.proofs.by_pages.edit_file.Goals as goal

pub returns-clause-edits : goal.returns-clause-edits
returns-clause-edits g c =
    let text = rw (c.as_slice.ensures.value, c.in_ok-opening.ensures) at c.edit_opened-edited.ensures.edits in
    Joined-file c.args.edit.now.pages
    (order_by (g.G.Guard.answers c.args.edit.now.guard.now)
    (record { promise = c.args.edit.now.promise.now; given = c.args.edit.now.given })) c.args.edit.now.source.now
    c.args.edit.now.target.now
    c.args.machine.now c.edit_opened-edited.new.machine c.drop_if_coded.new.machine
    (g.H.Host.files c.args.host.now) (g.H.Host.files c.edit_opened-edited.new.host)
    (g.H.Host.files c.drop_if_coded.new.host)
    (g.H.Host.failures c.args.host.now) (g.H.Host.failures c.edit_opened-edited.new.host)
    (g.H.Host.failures c.drop_if_coded.new.host)
    (g.W.Write.contents c.args.writer.now) (g.W.Write.contents c.edit_opened-edited.new.writer)
    c.dropped.result c.edit_opened-edited.result c.dropped.ensures text c.drop_if_coded.ensures.drops

pub returns-then-not-takes-clause-edits : goal.returns-then-not-takes-clause-edits
returns-then-not-takes-clause-edits g c =
    let failures = g.H.Host.failures c.args.host.now in
    let sink = g.W.Write.contents c.args.writer.now in
    (Joined-stays (λ (old : World) (new : World). FileEdited c.args.edit.now.pages
    (order_by (g.G.Guard.answers c.args.edit.now.guard.now)
    (record { promise = c.args.edit.now.promise.now; given = c.args.edit.now.given })) c.args.edit.now.source.now
    c.args.edit.now.target.now old new failures failures sink sink (Err fault.Argument)) c.args.machine.now
    (g.H.Host.files c.args.host.now) (λ world. (refl, search rules)))

pub returns-in_err-opening-clause-edits : goal.returns-in_err-opening-clause-edits
returns-in_err-opening-clause-edits g c =
    let is : c.from_residual.result ≡ Err fault.Memory = search rules in
    let failures = g.H.Host.failures c.args.host.now in
    let sink = g.W.Write.contents c.args.writer.now in
    rw is (Joined-stays (λ (old : World) (new : World). FileEdited c.args.edit.now.pages
    (order_by (g.G.Guard.answers c.args.edit.now.guard.now)
    (record { promise = c.args.edit.now.promise.now; given = c.args.edit.now.given })) c.args.edit.now.source.now
    c.args.edit.now.target.now old new failures failures sink sink (Err fault.Memory)) c.args.machine.now
    (g.H.Host.files c.args.host.now) (λ world. (refl, search rules)))

pub returns-clause-touches : goal.returns-clause-touches
returns-clause-touches g c =
    edit-touches c.notes_fit.ensures (record { promise = c.args.edit.now.promise.now; given = c.args.edit.now.given })
    c.args.edit.now.source.now c.args.edit.now.target.now c.edit_opened-edited.result
    c.args.machine.now c.edit_opened-edited.new.machine c.drop_if_coded.new.machine
    (g.H.Host.files c.args.host.now) (g.H.Host.files c.edit_opened-edited.new.host)
    (g.H.Host.files c.drop_if_coded.new.host)
    (λ same. subst (λ r. PagesCount r (g.H.Host.failures c.args.host.now)
    (g.H.Host.failures c.edit_opened-edited.new.host)) same c.edit_opened-edited.ensures.counted)
    (λ same. subst (λ r. PagesCount r (g.H.Host.failures c.args.host.now)
    (g.H.Host.failures c.edit_opened-edited.new.host)) same c.edit_opened-edited.ensures.counted)
    (λ same. subst (λ r. PagesCount r (g.H.Host.failures c.args.host.now)
    (g.H.Host.failures c.edit_opened-edited.new.host)) same c.edit_opened-edited.ensures.counted)
    (rw (c.as_slice.ensures.value, c.in_ok-opening.ensures) at c.edit_opened-edited.ensures.touches)
    (c.drop_if_coded.ensures.touches (record { promise = c.args.edit.now.promise.now; given = c.args.edit.now.given }))
