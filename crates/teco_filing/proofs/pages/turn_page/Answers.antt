use Rattle.teco_filing.proofs.Prelude.{rules, ◌≡◌, Some, Err, refl, sym, ap, subst, ◌∙◌, err_from_is_err_and, IsSome}
use Rattle.teco_filing.proofs.Prelude.{Page, Held, unread_bytes, halt_of, touches-more}
use Rattle.teco_filing.proofs.Turned.{turn-stopped, turned}
use Rattle.teco_filing.proofs.pages.turn_page.Goals as goal

pub returns-in_err-write_page-clause-turns : goal.returns-in_err-write_page-clause-turns
returns-in_err-write_page-clause-turns g c =
    let opened : IsSome c.args.pages.now.input = search rules in
    let p = err_from_is_err_and c.from_residual-in_err-write_page.result c.from_residual-in_err-write_page.ensures.1 in
    let stopped : c.from_residual-in_err-write_page.result ≡ Err (halt_of c.in_err-write_page.field-0.0) =
    p.1 ∙ ap Err p.2 in
    let stays : c.write_page.new.self ≡ c.args.editor.now = c.in_err-write_page.ensures.err in
    rw (stopped, stays)
    (turn-stopped c.args.editor.now c.args.pages.now c.next_page.new.self c.args.text.now
    c.in_ok-next_page.ensures.input c.in_ok-next_page.ensures.output opened c.in_ok-next_page.ensures.limit
    _ _ _ _ _ _ c.in_ok-next_page.ensures.page c.in_err-write_page.ensures.out)

pub returns-clause-turns : goal.returns-clause-turns
returns-clause-turns g c =
    let page : Page = record { text = c.in-Some.page.items; ff = c.in-Some.form_feed } in
    let ready : c.next_page.new.self.ready ≡ Some page = sym c.in-Some.ensures.value in
    let some : IsSome c.next_page.new.self.ready = subst IsSome (sym ready) refl in
    let opened : IsSome c.args.pages.now.input = search rules in
    let accepted = c.take_over.ensures ∙ c.take_page.ensures.accepted in
    rw (c.take_page-2.ensures.taken, c.in_ok-write_page.ensures.written)
    (turned c.args.editor.now c.args.pages.now c.next_page.new.self c.args.text.now c.in_ok-next_page.ensures.input
    c.in_ok-next_page.ensures.output opened c.in_ok-next_page.ensures.limit
    c.take_over.new.self page _ _ _ ready (ap (λ (h : Held). h.input) accepted) (ap (λ (h : Held). h.output) accepted)
    (λ files. ap (λ h. unread_bytes h files) c.take_over.ensures ∙ c.take_page.ensures.rest some files)
    c.in_ok-next_page.ensures.page c.in_ok-write_page.ensures.out.0)

pub returns-in_err-write_page-clause-noted : goal.returns-in_err-write_page-clause-noted
returns-in_err-write_page-clause-noted g c =
    touches-more _ _ _ _ _ _ c.next_page.ensures.noted c.write_page.ensures.noted

pub returns-clause-noted : goal.returns-clause-noted
returns-clause-noted g c =
    let same : c.take_over.new.self.end ≡ c.next_page.new.self.end =
    ap (λ (h : Held). h.end) (c.take_over.ensures ∙ c.take_page.ensures.accepted) in
    rw same (touches-more _ _ _ _ _ _ c.next_page.ensures.noted c.write_page.ensures.noted)
