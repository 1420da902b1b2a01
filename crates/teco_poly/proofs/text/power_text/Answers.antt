use Rattle.teco_poly.proofs.Prelude.{arith, lit<}
use Rattle.teco_poly.proofs.Powers.{power_is}
use Rattle.teco_poly.proofs.text.power_text.Goals as goal

pub returns-in-2 : goal.returns-in-2
returns-in-2 c = power_is 0 c.args.power (omega arith) (lit< tt)

pub returns-in-3 : goal.returns-in-3
returns-in-3 c = power_is 1 c.args.power (omega arith) (lit< tt)

pub returns-in-4 : goal.returns-in-4
returns-in-4 c = power_is 2 c.args.power (omega arith) (lit< tt)

pub returns-in-5 : goal.returns-in-5
returns-in-5 c = power_is 3 c.args.power (omega arith) (lit< tt)

pub returns-in-6 : goal.returns-in-6
returns-in-6 c = power_is 4 c.args.power (omega arith) (lit< tt)

pub returns-in-7 : goal.returns-in-7
returns-in-7 c = power_is 5 c.args.power (omega arith) (lit< tt)

pub returns-in_default : goal.returns-in_default
returns-in_default c = power_is 6 c.args.power (omega arith) (lit< tt)
