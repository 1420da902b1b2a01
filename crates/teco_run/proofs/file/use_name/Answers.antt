use Rattle.teco_run.proofs.Prelude.{Ok, true, false, refl, World}
use Rattle.teco_model.specs.Filing as filing
use Rattle.teco_model.specs.declared.kind.File.TheVariants as file
use Rattle.teco_model.specs.declared.kind.Kind.TheVariants as kind
use Rattle.teco_run.proofs.Together.{Joined-map}
use Rattle.teco_run.proofs.Works.{finding, gone_on, letting_go, opening}
use Rattle.teco_run.proofs.file.use_name.Goals as goal

pub returns-in-Read-clause-answers : goal.returns-in-Read-clause-answers
returns-in-Read-clause-answers g c frame pending =
    let kept = c.desk.inside.editor in
    rw (c.in-Read.is, c.then.ensures) (Joined-map _ _ kept kept c.desk.inside.pages c.open_input.new.pages
    (g.H.Host.files c.args.host.now) (g.H.Host.files c.open_input.new.host) c.args.desk.now _ c.desk.view_is refl
    (λ (old : World) (new : World) h. finding frame pending old new (filing.open_input c.args.name.now old)
    c.open_input.result h)
    (c.open_input.ensures.opens kept))

pub returns-in-Write-clause-answers : goal.returns-in-Write-clause-answers
returns-in-Write-clause-answers g c frame pending =
    let kept = c.desk.inside.editor in
    rw (c.in-Write.is, c.then-in-Write.ensures) (Joined-map _ _ kept kept c.desk.inside.pages c.open_output.new.pages
    (g.H.Host.files c.args.host.now) (g.H.Host.files c.open_output.new.host) c.args.desk.now _ c.desk.view_is refl
    (λ (old : World) (new : World) h. gone_on (kind.File file.Write) true frame pending old new
    (filing.open_output c.args.name.now old) c.open_output.result (opening old new _ c.open_output.result h))
    (c.open_output.ensures.opens kept))

pub returns-in-Close-clause-answers : goal.returns-in-Close-clause-answers
returns-in-Close-clause-answers g c frame pending =
    let kept = c.desk.inside.editor in
    rw (c.in-Close.is, c.then-in-Close.ensures) (Joined-map _ _ kept kept c.desk.inside.pages c.close_output.new.pages
    (g.H.Host.files c.args.host.now) (g.H.Host.files c.close_output.new.host) c.args.desk.now _ c.desk.view_is refl
    (λ (old : World) (new : World) h. gone_on (kind.File file.Close) false frame pending old new
    (filing.close_output old) c.close_output.result
    (letting_go (kind.File file.Close) old new (λ left same. same) _ c.close_output.result h))
    (c.close_output.ensures.closes kept))

pub returns-in-Abandon-clause-answers : goal.returns-in-Abandon-clause-answers
returns-in-Abandon-clause-answers g c frame pending =
    let kept = c.desk.inside.editor in
    rw (c.in-Abandon.is, c.then-in-Abandon.ensures)
    (Joined-map _ _ kept kept c.desk.inside.pages c.abandon_output.new.pages
    (g.H.Host.files c.args.host.now) (g.H.Host.files c.abandon_output.new.host) c.args.desk.now _ c.desk.view_is refl
    (λ (old : World) (new : World) h. gone_on (kind.File file.Abandon) false frame pending old new
    (Ok (filing.abandon_output old)) c.abandon_output.result
    (letting_go (kind.File file.Abandon) old new (λ left same. same)
    (Ok (filing.abandon_output old)) c.abandon_output.result h))
    (c.abandon_output.ensures.abandons kept))
