use Rattle.teco_paths.proofs.Prelude.{◌-◌, ◌/◌, arith, LIMIT, MOST_NUMBER}
use Rattle.teco_paths.proofs.Always.{most_here, length_most, number_most, pushed_length_most, pushed_number_most}
use Rattle.teco_paths.proofs.facts.most_at.Goals as goal

pub returns-in-0 : goal.returns-in-0
returns-in-0 c =
    most_here c.args.place 0 MOST_NUMBER (omega (arith, c.if-place-lt11.false)) (omega (arith, c.in-0.is))
    (number_most ((c.args.place - 11) / 7))

pub returns-in-1 : goal.returns-in-1
returns-in-1 c =
    most_here c.args.place 1 LIMIT (omega (arith, c.if-place-lt11.false)) (omega (arith, c.in-1.is))
    (length_most ((c.args.place - 11) / 7))

pub returns-in-3 : goal.returns-in-3
returns-in-3 c =
    most_here c.args.place 3 MOST_NUMBER (omega (arith, c.if-place-lt11.false)) (omega (arith, c.in-3.is))
    (pushed_number_most ((c.args.place - 11) / 7))

pub returns-in-4 : goal.returns-in-4
returns-in-4 c =
    most_here c.args.place 4 LIMIT (omega (arith, c.if-place-lt11.false)) (omega (arith, c.in-4.is))
    (pushed_length_most ((c.args.place - 11) / 7))
