use Rattle.teco_claims.proofs.Prelude.{arith}
use Rattle.std.proofs.lemmas.Nat.Gcd.{IsGcd-from_zero, IsGcd-from_mod}
use Rattle.teco_claims.proofs.spelled.greatest_divisor.Goals as goal

pub steps-init : goal.steps-init
steps-init c = λ g h. h

pub steps-preserved : goal.steps-preserved
steps-preserved c = λ g h. c.steps.invariant g (IsGcd-from_mod c.steps.greater c.steps.less g h)

pub returns : goal.returns
returns c =
    c.steps.invariant c.steps.greater (IsGcd-from_zero c.steps.greater c.steps.less (omega (arith, c.steps-test)))
