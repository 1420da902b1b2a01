use Rattle.teco_run.proofs.Prelude.{◌≡◌, Err, rules, reads_page, taken_at, append_reply, halt_by_stuck, Holdings}
use Rattle.teco_run.proofs.Prelude.{Pending}
use Rattle.teco_model.specs.declared.kind.Kind.TheVariants as kind
use Rattle.teco_model.specs.declared.kind.Page.TheVariants as page
use Rattle.teco_run.proofs.Pages.{character-answers}
use Rattle.teco_run.proofs.Taking.{untaken}
use Rattle.teco_run.proofs.page.append.Goals as goal

pub returns-in_err-n-clause-answers : goal.returns-in_err-n-clause-answers
returns-in_err-n-clause-answers g c frame =
    let why = c.in_err-n.field-0.0 in
    let is : c.from_residual.result ≡ Err (halt_by_stuck why) = search rules in
    let pending = c.args.pending.now in
    rw is (untaken (kind.Page page.Append) (reads_page page.Append pending.left (taken_at pending.arguments.level))
    frame pending c.take.new.self c.take.new.self (λ old own p. append_reply own.value p.left p.arguments old)
    why c.args.desk.now (g.H.Host.files c.args.host.now) c.in_err-n.ensures)

pub returns-clause-answers : goal.returns-clause-answers
returns-clause-answers g c frame =
    let pending = c.args.pending.now in
    let desk : Holdings = record { kept = c.desk.inside.editor; held = c.desk.inside.pages } in
    let mid : Pending = record { arguments = c.pending.inside.arguments; left = c.pending.inside.left } in
    let after : Pending = record { arguments = c.answer.new.self; left = c.pending.inside.left } in
    rw (← c.desk.view_is) (character-answers (reads_page page.Append pending.left (taken_at pending.arguments.level))
    frame pending mid after c.in_ok-n.field-0 c.in-Some.n desk (g.H.Host.files c.args.host.now)
    (rw (c.pending.view_is) c.in_ok-n.ensures) (search rules) (search rules))
