use Rattle.teco_paths.proofs.Prelude.{◌≡◌, ◌*◌, sym, ap, ◌∙◌}
use Rattle.teco_poly.specs.Polynomial as poly
use Rattle.teco_paths.proofs.Polynomials.{taken_away}
use Rattle.teco_paths.proofs.coefficients.less.Goals as goal

pub returns-in-Some-sub : goal.returns-in-Some-sub
returns-in-Some-sub c n =
    let product : poly.value c.in-Some.multiple n ≡ poly.value c.number.result n * poly.value c.args.power.now n =
    c.value_of_product.ensures c.number.result c.args.power.now c.in-Some.multiple n (sym c.mul.ensures ∙ c.in-Some.is)
    in
    let constant : poly.value c.number.result n ≡ c.args.number =
    ap (λ p. poly.value p n) c.number.ensures ∙ (c.values_of_constants.ensures n c.args.number).0 in
    taken_away (poly.value c.args.polynomial.now n) (poly.value c.in-Some-sub.left n) (poly.value c.in-Some.multiple n)
    c.args.number (poly.value c.number.result n) (poly.value c.args.power.now n)
    (c.value_of_difference.ensures c.args.polynomial.now c.in-Some.multiple c.in-Some-sub.left n
    (sym c.sub.ensures ∙ c.in-Some-sub.is))
    product constant
