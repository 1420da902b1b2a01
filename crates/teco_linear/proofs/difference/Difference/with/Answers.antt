use Rattle.teco_linear.proofs.Prelude.{arith, to_z-of_z, ints}
use Rattle.std.proofs.Common.{rules}
use Rattle.teco_linear.proofs.Integers.{passed}
use Rattle.teco_linear.proofs.Differences.{slack-number, slack-right, slack-left}
use Rattle.teco_linear.proofs.difference.Difference.with.Goals as goal

pub returns-in_ok-checked_add-in-None : goal.returns-in_ok-checked_add-in-None
returns-in_ok-checked_add-in-None c =
    slack-number c.args.self.now c.args.term.now (passed c.in_ok-checked_add-in-None.field-0)
    c.in_ok-checked_add-in-None.field-0
    (passed c.args.self.now.most) (passed c.args.term.now.coefficient) (omega arith) c.in-None.is
    (grind (arith, to_z-of_z))
    c.in_ok-checked_add-in-None.ensures.1 (grind (arith, to_z-of_z)) (grind (arith, to_z-of_z))

pub returns-in-Some : goal.returns-in-Some
returns-in-Some c =
    slack-right c.args.self.now c.args.term.now (passed c.args.self.now.most) c.in-Some.field-0 (omega arith)
    c.in-Some.is
    (omega (arith, ints)) (search rules) (grind (arith, to_z-of_z))

pub returns-in-Some-2 : goal.returns-in-Some-2
returns-in-Some-2 c =
    slack-left c.args.self.now c.args.term.now (passed c.args.self.now.most) c.in-Some-2.field-0 (omega arith)
    c.in-Some-2.is
    (omega (arith, ints)) (search rules) (grind (arith, to_z-of_z))
