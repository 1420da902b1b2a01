use Rattle.teco_filing.proofs.Prelude.{refl}
use Rattle.teco_model.specs.Paging as model
use Rattle.teco_filing.proofs.Turned.{is-written}
use Rattle.teco_filing.proofs.pages.write_page.Goals as goal

pub returns-clause-writes : goal.returns-clause-writes
returns-clause-writes g c =
    is-written c.args.editor.now c.args.pages.now model.page_written _
    (λ files. rw c.text.ensures refl) c.put_out.result _ _ _ _ c.put_out.ensures.put_out
