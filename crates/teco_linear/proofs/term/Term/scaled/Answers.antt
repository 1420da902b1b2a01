use Rattle.teco_linear.proofs.Prelude.{arith, to_z-of_z}
use Rattle.teco_linear.proofs.Integers.{passed}
use Rattle.teco_linear.proofs.Values.{term_value-scaled}
use Rattle.teco_linear.proofs.term.Term.scaled.Goals as goal

pub returns-clause-value : goal.returns-clause-value
returns-clause-value c =
    term_value-scaled c.args.self.now c.args.scale.now c.in-Some-checked_add.power (passed c.in-Some.coefficient)
    c.in-Some.coefficient (passed c.args.self.now.coefficient) (passed c.args.scale.now.factor)
    c.in-Some-checked_add.ensures.1 (grind (arith, to_z-of_z)) c.in-Some.ensures.1 (grind (arith, to_z-of_z))
    (grind (arith, to_z-of_z))
