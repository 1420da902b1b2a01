use Rattle.teco_linear.proofs.Prelude.{arith}
use Rattle.teco_linear.proofs.Loops.{IsSum-left, IsSum-right, IsSum-both, IsSum-all}
use Rattle.teco_linear.proofs.terms.sum.Goals as goal

pub terms-preserved-then-is_like : goal.terms-preserved-then-is_like
terms-preserved-then-is_like c = (
  IsSum-both c.args.left.now c.args.right.now c.terms.sum.items c.push.new.sum.items c.terms.i c.terms.j
      c.in_ok-plus.field-0
      (omega arith) (omega arith) c.in_ok-plus.ensures c.in_ok-push.ensures.value c.terms.invariant.0,
  omega arith,
  omega arith,
  c.in_ok-push.ensures.length,
)

pub terms-preserved-then-precedes : goal.terms-preserved-then-precedes
terms-preserved-then-precedes c = (
  IsSum-left c.args.left.now c.args.right.now c.terms.sum.items c.push-then-precedes.new.sum.items c.terms.i c.terms.j
      (omega arith) c.in_ok-push-2.ensures.value c.terms.invariant.0,
  omega arith,
  omega arith,
  c.in_ok-push-2.ensures.length,
)

pub terms-preserved : goal.terms-preserved
terms-preserved c = (
  IsSum-right c.args.left.now c.args.right.now c.terms.sum.items c.push-else-precedes.new.sum.items c.terms.i
      c.terms.j
      (omega arith) c.in_ok-push-3.ensures.value c.terms.invariant.0,
  omega arith,
  omega arith,
  c.in_ok-push-3.ensures.length,
)

pub returns-clause-value : goal.returns-clause-value
returns-clause-value c =
    IsSum-all c.args.left.now c.args.right.now c.terms.sum.items c.extend.new.sum.items c.extend-2.new.sum.items
    c.terms.i c.terms.j
    c.in_ok-extend.ensures.value c.in_ok-extend-2.ensures.value c.terms.invariant.0
