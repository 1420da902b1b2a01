use Rattle.teco_linear.proofs.Prelude.{arith, ap, ◌∙◌, ◌*ℤ◌, ◌+ℤ◌, scale_value, value}
use Rattle.teco_linear.proofs.Substitution.{IsSubstituted-more}
use Rattle.teco_linear.proofs.form.substituted.Goals as goal

pub loop-term-preserved : goal.loop-term-preserved
loop-term-preserved c = (
  IsSubstituted-more c.args.terms.now c.loop-term.sum.items c.in_ok-sum.sum.items c.in_ok-one.one c.in_ok-form.form.now
      c.in_ok-product.product.items
      c.args.forms.now c.scale.result c.loop-term.term-index (omega arith) c.in_ok-one.ensures c.in_ok-form.ensures
      c.scale.ensures
      (λ n v. c.in_ok-product.ensures.value n v
      ∙ ap (λ x. scale_value c.scale.result n *ℤ value x n v) c.few_terms.ensures.same)
      (λ n v. c.in_ok-sum.ensures.value n v
      ∙ ap (λ x. value x n v +ℤ value c.deref-in-loop-term.result.now n v) c.deref.ensures.value
      ∙ ap (λ x. value c.loop-term.sum.items n v +ℤ value x n v) c.deref-in-loop-term.ensures.value)
      c.loop-term.invariant.0,
  c.in_ok-sum.ensures.length,
)
