use Rattle.teco_run.proofs.Prelude.{◌≡◌, Result, Ok, Err, Some, None, pos, w32, rules, subst, sym, unwrap_or, Code}
use Rattle.teco_run.proofs.Prelude.{to_z-of_z, reads_page, Progress, one_page_of, page_count, pages_of, in_pages, World}
use Rattle.teco_run.proofs.Prelude.{Answers, IsNoRange, page_done, reads_one}
use Rattle.teco_model.specs.declared.kind.Kind.TheVariants as kind
use Rattle.teco_filing.specs.declared.halt.Halt.TheVariants as halt
use Rattle.teco_run.proofs.Pages.{pages-counted, pages-uncounted, range-answers, reads-counted, reads-range}
use Rattle.teco_run.proofs.Together.{Joined-map, Joined-on}
use Rattle.teco_run.proofs.page.first_of.Goals as goal

pub returns-in_err-n-clause-answers : goal.returns-in_err-n-clause-answers
returns-in_err-n-clause-answers g c frame =
    let code = c.in_err-n.field-0.0 in
    let is : c.from_residual.result ≡ Err (halt.Code code) = search rules in
    let refused : (world : World) → pages_of (page_done c.args.page) c.args.taken.first c.args.taken.value world ≡ Err
    code = λ world. search rules in
    rw is (pages-uncounted (kind.Page c.args.page) (reads_page c.args.page None c.args.taken) frame c.args.pending.now
    c.args.pending.now (page_done c.args.page) c.args.taken code c.args.desk.now
    (g.H.Host.files c.args.host.now) refused)

pub returns-clause-answers : goal.returns-clause-answers
returns-clause-answers g c frame =
    let none : IsNoRange c.args.taken = c.in_default.ensures in
    let counted : page_count (unwrap_or c.args.taken.value (pos 1)) ≡ Ok c.in_ok-n.n = search rules in
    let Counted : Result Progress Code → World → World → Type 0 =
    λ d old new. Answers (kind.Page c.args.page) (reads_one c.args.page) frame c.one_of.new.pending
    (in_pages c.args.pending.now.arguments d) old new c.one_of.result in
    rw (reads-counted c.args.page c.args.taken c.requires.written none)
    (Joined-on (λ old new. Counted (one_page_of (page_done c.args.page) c.in_ok-n.n old) old new)
    (λ old new. Counted (pages_of (page_done c.args.page) c.args.taken.first c.args.taken.value old) old new)
    c.args.desk.now c.one_of.new.desk (g.H.Host.files c.args.host.now) (g.H.Host.files c.one_of.new.host)
    (λ old new h. subst (λ d. Counted d old new)
    (sym (pages-counted (page_done c.args.page) c.args.taken.first c.args.taken.value c.in_ok-n.n old none counted))
    h) (c.one_of.ensures.answers frame))

pub returns-in-Some-clause-answers : goal.returns-in-Some-clause-answers
returns-in-Some-clause-answers g c frame =
    let m = to_z-of_z w32 c.in-Some.m (search rules) in
    let n = to_z-of_z w32 c.in-Some.n (search rules) in
    let first : c.args.taken.first ≡ Some c.in-Some.m = c.in-Some.ensures.0 in
    let value : c.args.taken.value ≡ Some c.in-Some.n = c.in-Some.ensures.1 in
    rw (
      reads-range c.args.page c.args.taken c.in-Some.m c.in-Some.n c.requires.written first value,
      first,
      value,
      c.then.ensures,
    )
    (Joined-map _ _ c.desk.inside.editor c.desk.inside.editor c.desk.inside.pages c.desk.inside.pages
    (g.H.Host.files c.args.host.now) (g.H.Host.files c.write_range-done.new.host) c.args.desk.now c.args.desk.now
    c.desk.view_is c.desk.view_is
    (λ (old : World) (new : World) h. range-answers c.args.page frame c.args.pending.now c.leave.new.self c.in-Some.m
    c.in-Some.n c.leave.result old new c.write_range-done.result c.requires.written c.leave.ensures h)
    (rw (m, n) at c.write_range-done.ensures.writes))
