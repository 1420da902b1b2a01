use Rattle.teco_session.proofs.Prelude.{err_from_is_err_and}
use Rattle.teco_session.proofs.Known.{WritesPart-front, Writes-behind}
use Rattle.teco_session.proofs.sessions.write_lines.Goals as goal

pub returns-in_err-write_typed-clause-lines : goal.returns-in_err-write_typed-clause-lines
returns-in_err-write_typed-clause-lines g c =
    let fault = c.in_err-write_typed.ensures in
    let left = err_from_is_err_and c.from_residual.result c.from_residual.ensures.1 in
    rw (left.1, left.2) (fault.0, WritesPart-front _ _ _ _ fault.1)

pub returns-clause-lines : goal.returns-clause-lines
returns-clause-lines g c = Writes-behind _ _ _ _ _ _ c.in_ok-write_typed.ensures c.write_code.ensures.line
