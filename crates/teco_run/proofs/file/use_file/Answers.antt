use Rattle.teco_run.proofs.Prelude.{◌≡◌, Err, rules, filed, halt_by_stuck}
use Rattle.teco_model.specs.Memory.{file_grows}
use Rattle.teco_model.specs.declared.kind.Kind.TheVariants as kind
use Rattle.teco_run.proofs.Taking.{taken, untaken}
use Rattle.teco_run.proofs.file.use_file.Goals as goal

pub returns-in_err-take-clause-answers : goal.returns-in_err-take-clause-answers
returns-in_err-take-clause-answers g c frame =
    let why = c.in_err-take.field-0.0 in
    let is : c.from_residual.result ≡ Err (halt_by_stuck why) = search rules in
    rw is (untaken (kind.File c.args.file) (file_grows c.args.file) frame c.args.pending.now c.take.new.self
    c.take.new.self (λ old own p. filed c.args.file c.args.name.now p.left p.arguments old)
    why c.args.desk.now (g.H.Host.files c.args.host.now) c.in_err-take.ensures)

pub returns-clause-answers : goal.returns-clause-answers
returns-clause-answers g c frame =
    taken (kind.File c.args.file) (file_grows c.args.file) frame c.args.pending.now c.take.new.self c.take.new.self
    (λ old own p. filed c.args.file c.args.name.now p.left p.arguments old)
    _ c.use_name.result c.args.desk.now c.use_name.new.desk (g.H.Host.files c.args.host.now)
    (g.H.Host.files c.use_name.new.host) c.in_ok-take.ensures (c.use_name.ensures.answers frame c.take.new.self)
