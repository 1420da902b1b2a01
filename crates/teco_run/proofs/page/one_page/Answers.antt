use Rattle.teco_run.proofs.Prelude.{refl, World}
use Rattle.teco_model.specs.Paging.{page_turned, page_written}
use Rattle.teco_model.specs.declared.kind.Kind.TheVariants as kind
use Rattle.teco_model.specs.declared.kind.Page.TheVariants as page
use Rattle.teco_run.proofs.Together.{Joined-map}
use Rattle.teco_run.proofs.Works.{turning, writing}
use Rattle.teco_run.proofs.page.one_page.Goals as goal

pub returns-in-Next-clause-works : goal.returns-in-Next-clause-works
returns-in-Next-clause-works g c =
    let kept = c.desk.inside.editor in
    rw c.in-Next.is (Joined-map _ _ kept c.turn_page.new.editor c.desk.inside.pages c.turn_page.new.pages
    (g.H.Host.files c.args.host.now) (g.H.Host.files c.turn_page.new.host) c.args.desk.now _ c.desk.view_is refl
    (λ (old : World) (new : World) h. turning (kind.Page page.Next) old new refl refl (λ left same. same)
    (λ left part. part) (page_turned old) c.turn_page.result h)
    c.turn_page.ensures.turns)

pub returns-in-Write-clause-works : goal.returns-in-Write-clause-works
returns-in-Write-clause-works g c =
    let kept = c.desk.inside.editor in
    rw c.in-Write.is (Joined-map _ _ kept kept c.desk.inside.pages c.desk.inside.pages
    (g.H.Host.files c.args.host.now) (g.H.Host.files c.write_page.new.host) _ _ c.desk.view_is c.desk.view_is
    (λ (old : World) (new : World) h. writing (kind.Page page.Write) old new (λ left part. part)
    (page_written old) c.write_page.result h)
    c.write_page.ensures.writes)
