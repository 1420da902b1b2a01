use Rattle.teco_filing.proofs.Prelude.{◌++◌, ap, ◌∙◌, written_page, touches-more}
use Rattle.teco_filing.proofs.Written.{writes-all}
use Rattle.teco_filing.proofs.files.write_all.Goals as goal

pub returns-in-Ok-clause-written : goal.returns-in-Ok-clause-written
returns-in-Ok-clause-written g c =
    let kept = c.args.editor.now in
    let text = c.text.result.0.now ++ c.text.result.1.now in
    let bytes = written_page (record { text = text; ff = c.form_feed.result }) in
    let page = ap (λ t. written_page (record { text = t; ff = c.form_feed.result })) c.text.ensures
    ∙ ap (λ f. written_page (record { text = kept.text; ff = f })) c.form_feed.ensures in
    writes-all kept c.args.pages.now bytes page c.write_unread.result _ _ _ c.in-Ok.ensures.written
    c.write_unread.ensures.written

pub returns-in-Ok-clause-noted : goal.returns-in-Ok-clause-noted
returns-in-Ok-clause-noted g c = touches-more _ _ _ _ _ _ c.write_page.ensures.noted c.write_unread.ensures.noted
