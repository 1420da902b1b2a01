use Rattle.teco_apply.proofs.Prelude.{◌+◌, ◌∙◌, refl, rules, order_by, PromisedCall, Notes}
use Rattle.teco_apply.proofs.InPlace.{rewritten-from, unedited}
use Rattle.teco_session.specs.declared.fault.SessionFault.TheVariants as fault
use Rattle.teco_apply.proofs.in_place.edit_in_place.Goals as goal

pub returns-then-not-takes-clause-edits : goal.returns-then-not-takes-clause-edits
returns-then-not-takes-clause-edits g c =
    unedited c.notes_fit.ensures c.files_are_replaced.ensures c.args.rewrite.now.pages
    (order_by (g.G.Guard.answers c.args.rewrite.now.guard.now)
    (record { promise = c.args.rewrite.now.promise.now; given = c.args.rewrite.now.given }))
    c.args.rewrite.now.name.now g.E.Ending.replaces c.args.machine.now (g.H.Host.files c.args.host)
    (g.H.Host.failures c.args.host) (g.W.Write.contents c.args.writer.now) fault.Argument c.requires.fresh
    (λ old. (refl, search rules))

pub returns-in_default-clause-edits : goal.returns-in_default-clause-edits
returns-in_default-clause-edits g c =
    unedited c.notes_fit.ensures c.files_are_replaced.ensures c.args.rewrite.now.pages
    (order_by (g.G.Guard.answers c.args.rewrite.now.guard.now)
    (record { promise = c.args.rewrite.now.promise.now; given = c.args.rewrite.now.given }))
    c.args.rewrite.now.name.now g.E.Ending.replaces c.args.machine.now (g.H.Host.files c.args.host)
    (g.H.Host.failures c.args.host) (g.W.Write.contents c.args.writer.now) fault.Memory c.requires.fresh
    (λ old. (refl, search rules))

pub returns-clause-edits : goal.returns-clause-edits
returns-clause-edits g c =
    let call : PromisedCall = record { promise = c.args.rewrite.now.promise.now; given = c.args.rewrite.now.given } in
    let files = c.edit_file-edited.new.host in
    rewritten-from c.notes_fit.ensures c.files_are_replaced.ensures c.args.rewrite.now.pages
    (order_by (g.G.Guard.answers c.args.rewrite.now.guard.now) call) c.args.rewrite.now.name.now g.E.Ending.replaces
    call
    c.as_slice.result.now c.args.machine.now c.edit_file-edited.new.machine (Notes c.new-files.result.history.events)
    (Notes files.history.events) (g.H.Host.files c.into_host.result)
    (g.H.Host.failures c.args.host) (g.H.Host.failures c.new-files.result.host + c.new-files.result.failures.value)
    (g.H.Host.failures files.host + files.failures.value) (g.W.Write.contents c.args.writer.now)
    (g.W.Write.contents c.edit_file-edited.new.writer) c.edit_file-edited.result
    (c.as_slice.ensures.value ∙ c.in-Ok.ensures) c.new-files.ensures.noted c.new-files.ensures.failures
    c.edit_file-edited.ensures.edits c.edit_file-edited.ensures.touches c.into_host.ensures.noted
