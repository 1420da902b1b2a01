use Rattle.teco_filing.proofs.Prelude.{Err, ap, ◌∙◌, ◌≡◌, err_from_is_err_and, halt_of}
use Rattle.teco_filing.proofs.Turned.{look-stopped}
use Rattle.teco_filing.proofs.pages.look_through.Goals as goal

pub returns-in_err-look_through-clause-looks : goal.returns-in_err-look_through-clause-looks
returns-in_err-look_through-clause-looks g c =
    let p = err_from_is_err_and c.from_residual.result c.from_residual.ensures.1 in
    let stopped : c.from_residual.result ≡ Err (halt_of c.in_err-look_through.field-0.0) = p.1 ∙ ap Err p.2 in
    rw (stopped, c.in_err-look_through.ensures.err)
    (look-stopped c.args.editor.now c.args.pages.now c.args.text.now c.args.message.now c.in_err-look_through.field-0.0
    _ _ _ _ c.in_err-look_through.ensures.out)
