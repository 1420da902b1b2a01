use Rattle.teco_filing.proofs.Prelude.{◌≡◌, Err, ap, ◌∙◌, err_from_is_err_and, Held, halt_of}
use Rattle.teco_hosts.proofs.Touching.{touches-end}
use Rattle.teco_filing.proofs.Touched.{drops-failing}
use Rattle.teco_filing.proofs.files.copy_all.Goals as goal

pub returns-clause-noted : goal.returns-clause-noted
returns-clause-noted g c =
    rw (ap (λ (h : Held). h.end) c.close_in.ensures) (touches-end _ _ _ _ _ c.in_ok-done.ensures.noted)

pub returns-in_err-done-clause-noted : goal.returns-in_err-done-clause-noted
returns-in_err-done-clause-noted g c =
    let fault = c.in_err-done.field-0.0 in
    let p = err_from_is_err_and c.from_residual.result c.from_residual.ensures.1 in
    let stopped : c.from_residual.result ≡ Err (halt_of fault) = p.1 ∙ ap Err p.2 in
    rw (
      stopped,
      drops-failing fault _ _ c.args.pages.now.output c.in_err-done.ensures.answer,
      ap (λ (h : Held). h.end) c.close_in.ensures,
    )
    (touches-end _ _ _ _ _ c.in_err-done.ensures.noted)
