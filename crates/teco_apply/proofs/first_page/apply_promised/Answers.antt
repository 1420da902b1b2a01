use Rattle.teco_apply.proofs.FirstPage.{first-counts, first-page, said-fault}
use Rattle.teco_apply.proofs.Parts.{first-touches}
use Rattle.teco_session.specs.declared.fault.SessionFault.TheVariants as fault
use Rattle.teco_apply.proofs.first_page.apply_promised.Goals as goal

pub returns-clause-edits : goal.returns-clause-edits
returns-clause-edits g c =
    rw (← c.call.view_is) (first-page
    (record { promise = c.call.inside.promise.now; given = c.call.inside.given })
    c.args.source.now c.args.target.now
    c.args.machine.now c.edit_file.new.machine (g.H.Host.files c.args.host.now) (g.H.Host.files c.edit_file.new.host)
    (g.H.Host.failures c.args.host.now) (g.H.Host.failures c.edit_file.new.host)
    (g.W.Write.contents c.args.writer.now) (g.W.Write.contents c.edit_file.new.writer)
    c.edit_file.result c.said.result (rw c.dropped.ensures at c.said.ensures) c.edit_file.ensures.edits)

pub returns-clause-counted : goal.returns-clause-counted
returns-clause-counted g c =
    first-counts c.edit_file.result c.said.result (g.H.Host.failures c.args.host.now)
    (g.H.Host.failures c.edit_file.new.host)
    (rw c.dropped.ensures at c.said.ensures) c.edit_file.ensures.counted

pub returns-clause-argument : goal.returns-clause-argument
returns-clause-argument g c =
    let both = said-fault c.edit_file.result c.said.result fault.Argument (rw c.dropped.ensures at c.said.ensures) in
    let is = c.edit_file.ensures.argument in
    rw (← c.call.view_is) ((λ same. is.0 (both.0 same)), (λ not_taken. both.1 (is.1 not_taken)))

pub returns-clause-touches : goal.returns-clause-touches
returns-clause-touches g c =
    rw (← c.call.view_is) (first-touches
    (record { promise = c.call.inside.promise.now; given = c.call.inside.given }) c.args.source.now c.args.target.now
    c.args.machine.now c.edit_file.new.machine (g.H.Host.files c.args.host.now) (g.H.Host.files c.edit_file.new.host)
    c.edit_file.result c.said.result (rw c.dropped.ensures at c.said.ensures) c.edit_file.ensures.touches)
