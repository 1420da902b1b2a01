use Rattle.teco_linear.proofs.Prelude.{arith, negsuc, ints, ap, ◌∙◌, value}
use Rattle.teco_linear.proofs.Integers.{passed}
use Rattle.teco_linear.proofs.Values.{value-minus}
use Rattle.teco_linear.proofs.terms.difference.Goals as goal

pub returns-clause-value : goal.returns-clause-value
returns-clause-value c =
    value-minus c.args.left.now c.args.right.now c.deref.result.now c.in_ok-difference.difference.items
    (passed (negsuc 0)) (omega (arith, ints))
    (λ n v. ap (λ x. value x n v) c.deref.ensures.value ∙ c.in_ok-negated.ensures.value n v)
    c.in_ok-difference.ensures.value
