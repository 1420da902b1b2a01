use Rattle.teco_poly.proofs.Prelude.{arith, ◌+◌}
use Rattle.teco_poly.proofs.Spelling.{next_refused, next_read}
use Rattle.teco_poly.proofs.text.+read_from.Goals as goal

pub returns-in_err-coefficients-clause-none : goal.returns-in_err-coefficients-clause-none
returns-in_err-coefficients-clause-none t c =
    rw c.from_residual.ensures
    (next_refused c.args.text.now c.args.lead.now c.next_at-coefficient.result.1.now c.next_at-coefficient.result.2.now
    c.args.power (c.args.power + 1)
    (omega arith) (omega arith) c.in_err-coefficients.ensures.none c.next_at-coefficient.result.0
    c.next_at-coefficient.ensures)

pub returns-clause-found : goal.returns-clause-found
returns-clause-found t c =
    next_read c.args.text.now c.args.lead.now c.args.power c.next_at-coefficient.result.0
    c.next_at-coefficient.result.1.now
    c.next_at-coefficient.result.2.now c.in_ok-coefficients.coefficients (omega arith) c.next_at-coefficient.ensures
    c.in_ok-coefficients.ensures.found
