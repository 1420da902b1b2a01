use Rattle.teco_run.proofs.Prelude.{◌≡◌, Err, rules, subst, IsSome, Holdings, page_done, reads_one}
use Rattle.teco_base.specs.declared.code.Code.TheVariants as code
use Rattle.teco_model.specs.declared.kind.Kind.TheVariants as kind
use Rattle.teco_filing.specs.declared.halt.Halt.TheVariants as halt
use Rattle.teco_run.proofs.Pages.{page-answers, page-needs}
use Rattle.teco_run.proofs.page.one_of.Goals as goal

pub returns-in_err-need_output-clause-answers : goal.returns-in_err-need_output-clause-answers
returns-in_err-need_output-clause-answers g c frame =
    let is : c.from_residual.result ≡ Err (halt.Code code.Nfo) = search rules in
    let desk : Holdings = record { kept = c.desk.inside.editor; held = c.desk.inside.pages } in
    rw (is, ← c.desk.view_is) (page-needs (kind.Page c.args.page) (reads_one c.args.page) frame c.args.pending.now
    c.args.pending.now (page_done c.args.page) c.args.n desk (g.H.Host.files c.args.host.now) (search rules))

pub returns-clause-answers : goal.returns-clause-answers
returns-clause-answers g c frame =
    let some = subst (λ (d : Holdings). IsSome d.held.output) c.desk.view_is c.in_ok-need_output.ensures.some in
    rw c.then.ensures (page-answers (kind.Page c.args.page) (reads_one c.args.page) frame c.args.pending.now
    c.leave.new.self (page_done c.args.page) c.args.n c.leave.result c.one_page-done.result c.args.desk.now
    c.one_page-done.new.desk
    (g.H.Host.files c.args.host.now) (g.H.Host.files c.one_page-done.new.host) c.leave.ensures some
    c.one_page-done.ensures.works)
