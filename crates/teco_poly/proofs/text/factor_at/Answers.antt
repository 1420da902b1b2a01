use Rattle.teco_poly.proofs.Front.{refused_one, refused_bare}
use Rattle.teco_poly.proofs.text.factor_at.Goals as goal

pub returns-then-coefficient-eq1-clause-none : goal.returns-then-coefficient-eq1-clause-none
returns-then-coefficient-eq1-clause-none c =
    refused_one c.args.text.now c.args.power c.in_ok-coefficient.coefficient c.in_ok-coefficient.rest.now c.requires
    c.in_ok-coefficient.ensures.found c.if-coefficient-eq1.true

pub returns-in_err-rest-clause-none : goal.returns-in_err-rest-clause-none
returns-in_err-rest-clause-none c =
    rw c.from_residual-in_err-rest.ensures
    (refused_bare c.args.text.now c.args.power c.in_ok-coefficient.coefficient c.in_ok-coefficient.rest.now c.requires
    c.in_ok-coefficient.ensures.found c.in_err-rest.ensures.cases)
