use Rattle.teco_run.proofs.Prelude.{◌≡◌, Err, true, rules, going_on, halt_by_stuck}
use Rattle.teco_model.specs.Paging.{yank}
use Rattle.teco_model.specs.declared.kind.Kind.TheVariants as kind
use Rattle.teco_model.specs.declared.kind.Page.TheVariants as page
use Rattle.teco_run.proofs.Taking.{untaken}
use Rattle.teco_run.proofs.page.yank.Goals as goal

pub returns-in_err-take-clause-answers : goal.returns-in_err-take-clause-answers
returns-in_err-take-clause-answers g c frame =
    let why = c.in_err-take.field-0.0 in
    let is : c.from_residual.result ≡ Err (halt_by_stuck why) = search rules in
    rw is (untaken (kind.Page page.Yank) true frame c.args.pending.now c.take.new.self c.take.new.self
    (λ old own p. going_on p.left p.arguments (yank old))
    why c.args.desk.now (g.H.Host.files c.args.host.now) c.in_err-take.ensures)
