use Rattle.teco_run.proofs.Prelude.{◌≡◌, Err, Some, None, rules, ap, subst, sym, IsSome, reads_page, taken_at, in_pages}
use Rattle.teco_run.proofs.Prelude.{pages, pages_of, halt_by_stuck, Holdings, Joined, Answers, page_done}
use Rattle.teco_base.specs.declared.code.Code.TheVariants as code
use Rattle.teco_model.specs.Memory.{taken_if_any}
use Rattle.teco_model.specs.declared.kind.Kind.TheVariants as kind
use Rattle.teco_filing.specs.declared.halt.Halt.TheVariants as halt
use Rattle.teco_run.proofs.Pages.{pages-need, pages-open, reads-more}
use Rattle.teco_run.proofs.Taking.{taken, untaken}
use Rattle.teco_run.proofs.page.write_pages.Goals as goal

pub returns-in-Some-clause-answers : goal.returns-in-Some-clause-answers
returns-in-Some-clause-answers g c frame =
    let left : c.args.pending.now.left ≡ Some c.in-Some.n = search rules in
    rw (left, reads-more c.args.page c.in-Some.n (taken_at c.args.pending.now.arguments.level) c.requires)
    (c.one_of.ensures.answers frame)

pub returns-in_err-taken-clause-answers : goal.returns-in_err-taken-clause-answers
returns-in_err-taken-clause-answers g c frame =
    let why = c.in_err-taken.field-0.0 in
    let is : c.from_residual.result ≡ Err (halt_by_stuck why) = search rules in
    let pending = c.args.pending.now in
    let none : pending.left ≡ None = search rules in
    rw (is, none) (untaken (kind.Page c.args.page) (reads_page c.args.page None (taken_at pending.arguments.level))
    frame pending c.take.new.self c.take.new.self
    (λ old own p. in_pages p.arguments (pages (page_done c.args.page) own old))
    why c.args.desk.now (g.H.Host.files c.args.host.now) c.in_err-taken.ensures)

pub returns-in_err-need_output-clause-answers : goal.returns-in_err-need_output-clause-answers
returns-in_err-need_output-clause-answers g c frame =
    let is : c.from_residual-in_err-need_output.result ≡ Err (halt.Code code.Nfo) = search rules in
    let pending = c.args.pending.now in
    let left : pending.left ≡ None = search rules in
    let none : c.args.desk.now.held.output ≡ None =
    subst (λ (d : Holdings). d.held.output ≡ None) c.desk.view_is (c.in_err-need_output.ensures.none).1 in
    let k = kind.Page c.args.page in
    let reads = reads_page c.args.page None (taken_at pending.arguments.level) in
    rw (is, left) (taken k reads frame pending c.take.new.self c.take.new.self
    (λ old own p. in_pages p.arguments (pages (page_done c.args.page) own old))
    c.in_ok-taken.taken (Err (halt.Code code.Nfo)) c.args.desk.now c.args.desk.now (g.H.Host.files c.args.host.now)
    (g.H.Host.files c.args.host.now) c.in_ok-taken.ensures
    (pages-need k reads frame c.take.new.self c.take.new.self (page_done c.args.page) c.in_ok-taken.taken
    c.args.desk.now (g.H.Host.files c.args.host.now) none))

pub returns-clause-answers : goal.returns-clause-answers
returns-clause-answers g c frame =
    let pending = c.args.pending.now in
    let left : pending.left ≡ None = search rules in
    let some = subst (λ (d : Holdings). IsSome d.held.output) c.desk.view_is c.in_ok-need_output.ensures.some in
    let own = c.in_ok-taken.taken in
    let k = kind.Page c.args.page in
    let reads = reads_page c.args.page None (taken_at pending.arguments.level) in
    let same : taken_at pending.arguments.level ≡ own = ap taken_if_any c.in_ok-taken.ensures.0 in
    let answers =
    subst (λ own'. Joined (λ old new. Answers k (reads_page c.args.page None own') frame c.first_of.new.pending
    (in_pages c.take.new.self.arguments (pages_of (page_done c.args.page) own.first own.value old)) old new
    c.first_of.result)
    c.args.desk.now c.first_of.new.desk (g.H.Host.files c.args.host.now) (g.H.Host.files c.first_of.new.host))
    (sym same) (c.first_of.ensures.answers frame) in
    rw left (taken k reads frame pending c.take.new.self c.first_of.new.pending
    (λ old own p. in_pages p.arguments (pages (page_done c.args.page) own old))
    own c.first_of.result c.args.desk.now c.first_of.new.desk (g.H.Host.files c.args.host.now)
    (g.H.Host.files c.first_of.new.host) c.in_ok-taken.ensures
    (pages-open k reads frame c.take.new.self c.first_of.new.pending (page_done c.args.page) own c.first_of.result
    c.args.desk.now c.first_of.new.desk (g.H.Host.files c.args.host.now) (g.H.Host.files c.first_of.new.host) some
    answers))
