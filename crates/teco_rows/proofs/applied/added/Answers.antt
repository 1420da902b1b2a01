use Rattle.teco_rows.proofs.Prelude.{◌≡◌, refl, ◌∙◌, ap, pos, rules, ◌*ℤ◌, get_or, to_z, of_z, arith, common_steps}
use Rattle.teco_rows.proofs.Prelude.{ints, to_z-of_z}
use Rattle.teco_rows.proofs.Prelude.{value, weight}
use Rattle.teco_rows.proofs.Prelude.{read_by}
use Rattle.std.proofs.Math.IntN.{zero-*ℤ}
use mir.Syntax.{w128}
use Rattle.teco_rows.proofs.Sums.{no_part, sum_of-drop, product_is}
use Rattle.teco_rows.proofs.applied.added.Goals as goal

pub loop-times-preserved : goal.loop-times-preserved
loop-times-preserved c = λ n v.
    let b = read_by c.args.case.now c.args.step.now n v in
    let parts = c.args.parts.now in
    let i = c.loop-times.times-index in
    let p = get_or parts i no_part in
    let factor : to_z w128 (of_z w128 c.from-in-loop-times.result) ≡ p.0 = grind (arith, common_steps, to_z-of_z) in
    let made : value c.in_ok-product.product n v ≡ p.0 *ℤ weight b p.1 =
    product_is _ p.0 (weight b p.1) _ (weight b p.1) n factor refl (c.in_ok-product.ensures n v) in
    omega (
      arith,
      ints,
      c.loop-times.invariant n v,
      c.in_ok-sum-2.ensures n v,
      sum_of-drop b parts i no_part c.loop-times-test.true,
      made,
    )

pub loop-times-preserved-then-times-eq0 : goal.loop-times-preserved-then-times-eq0
loop-times-preserved-then-times-eq0 c = λ n v.
    let b = read_by c.args.case.now c.args.step.now n v in
    let parts = c.args.parts.now in
    let i = c.loop-times.times-index in
    let p = get_or parts i no_part in
    let zero : p.0 ≡ pos 0 = search rules in
    let none : p.0 *ℤ weight b p.1 ≡ pos 0 = ap (λ x. x *ℤ weight b p.1) zero ∙ zero-*ℤ (weight b p.1) in
    omega (
      arith,
      ints,
      c.loop-times.invariant n v,
      sum_of-drop b parts i no_part c.loop-times-test.true,
      none,
    )
