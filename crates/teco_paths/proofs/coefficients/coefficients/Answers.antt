use Rattle.teco_paths.proofs.Prelude.{sym, ap, ◌∙◌, arith}
use Rattle.teco_poly.specs.Polynomial as poly
use Rattle.teco_paths.proofs.Polynomials.{all_told, first_power, power_more, told_more, told_none}
use Rattle.teco_paths.proofs.coefficients.coefficients.Goals as goal

pub loop-init : goal.loop-init
loop-init c =
    rw c.new-found.ensures.items
    (record {
      told = λ n. told_none (poly.value c.args.polynomial.now n);
      raised =
          λ n. first_power (poly.value c.number-power.result n) n
          (ap (λ p. poly.value p n) c.number-power.ensures ∙ (c.values_of_constants.ensures n 1).0);
    })

pub returns-then-le : goal.returns-then-le
returns-then-le c n =
    rw c.in_ok-push.ensures.items
    (all_told (poly.value c.args.polynomial.now n) (poly.value c.loop.left n)
    (poly.value c.in_ok-left.left n) c.loop.found.items
    c.greatest-number.result (poly.value c.loop.power n) n (c.loop.invariant.told n) (c.in_ok-left.ensures n)
    (c.loop.invariant.raised n)
    (omega (
      arith,
      c.values_compare.ensures c.in_ok-left.left c.number.result n (sym c.if-le.ensures),
      ap (λ p. poly.value p n) c.number.ensures ∙ (c.values_of_constants.ensures n 0).0,
    )))

pub loop-preserved : goal.loop-preserved
loop-preserved c =
    rw c.in_ok-push.ensures.items
    (record {
      told =
          λ n. told_more (poly.value c.args.polynomial.now n) (poly.value c.loop.left n)
          (poly.value c.in_ok-left.left n)
          c.loop.found.items c.greatest-number.result (poly.value c.loop.power n) n (c.loop.invariant.told n)
          (c.in_ok-left.ensures n) (c.loop.invariant.raised n);
      raised =
          λ n. power_more c.loop.found.items c.greatest-number.result (poly.value c.loop.power n)
          (poly.value c.in_ok-power.power n) n (c.loop.invariant.raised n) (c.in_ok-power.ensures n);
    })
