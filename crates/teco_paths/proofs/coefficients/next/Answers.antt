use Rattle.teco_paths.proofs.Prelude.{◌*◌, sym, ap, ◌∙◌}
use Rattle.teco_poly.specs.Polynomial as poly
use Rattle.teco_paths.proofs.coefficients.next.Goals as goal

pub returns-in-Some : goal.returns-in-Some
returns-in-Some c n =
    c.value_of_product.ensures c.args.power.now c.variable.result c.in-Some.more n (sym c.mul.ensures ∙ c.in-Some.is)
    ∙ ap (λ x. poly.value c.args.power.now n * x)
    (ap (λ p. poly.value p n) c.variable.ensures ∙ (c.values_of_constants.ensures n 0).1)
