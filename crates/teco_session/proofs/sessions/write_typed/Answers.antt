use Rattle.teco_session.proofs.Prelude.{err_from_is_err_and}
use Rattle.teco_session.proofs.Known.{WritesPart-front, Writes-behind}
use Rattle.teco_session.proofs.sessions.write_typed.Goals as goal

pub returns-in_err-write_bytes : goal.returns-in_err-write_bytes
returns-in_err-write_bytes g c =
    let fault = c.in_err-write_bytes.ensures in
    let left = err_from_is_err_and c.from_residual.result c.from_residual.ensures.1 in
    rw (left.1, left.2, ← c.typed.ensures) (fault.0, WritesPart-front _ _ _ _ fault.1)

pub returns : goal.returns
returns g c = rw (← c.typed.ensures) (Writes-behind _ _ _ _ _ _ c.in_ok-write_bytes.ensures c.write_both.ensures)
