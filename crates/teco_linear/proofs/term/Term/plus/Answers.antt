use Rattle.teco_linear.proofs.Prelude.{arith, to_z-of_z}
use Rattle.teco_linear.proofs.Integers.{passed}
use Rattle.teco_linear.proofs.Values.{term_value-plus}
use Rattle.teco_linear.proofs.term.Term.plus.Goals as goal

pub returns-in-Some : goal.returns-in-Some
returns-in-Some c =
    term_value-plus c.args.self.now c.args.other.now (passed c.in-Some.coefficient) c.in-Some.coefficient
    (passed c.args.self.now.coefficient) (passed c.args.other.now.coefficient) c.requires.symbol c.requires.power
    (grind (arith, to_z-of_z)) c.in-Some.ensures.1 (grind (arith, to_z-of_z)) (grind (arith, to_z-of_z))
