use Rattle.teco_poly.proofs.Prelude.{ap, Some}
use Rattle.teco_poly.proofs.Spelling.{one_text}
use Rattle.teco_poly.proofs.poly.Poly.read.Goals as goal

pub returns-clause-read : goal.returns-clause-read
returns-clause-read c =
    λ p is e. ap (λ q. Some q)
    (one_text c.in_ok-coefficients.coefficients p c.args.bytes.now c.in_ok-coefficients.ensures.found.0 is
    c.in_ok-coefficients.ensures.found.1 e)
