use Rattle.teco_paths.proofs.Prelude.{◌-◌, ◌/◌, arith, MOST_BELOW}
use Rattle.teco_paths.proofs.Always.{least_here, length_least, number_least, pushed_length_least, pushed_number_least}
use Rattle.teco_paths.proofs.Always.{turns_least}
use Rattle.teco_paths.proofs.facts.least_at.Goals as goal

pub returns-in-0 : goal.returns-in-0
returns-in-0 c =
    least_here c.args.place 0 MOST_BELOW (omega (arith, c.if-place-lt11.false)) (omega (arith, c.in-0.is))
    (number_least ((c.args.place - 11) / 7))

pub returns-in-1 : goal.returns-in-1
returns-in-1 c =
    least_here c.args.place 1 0 (omega (arith, c.if-place-lt11.false)) (omega (arith, c.in-1.is))
    (length_least ((c.args.place - 11) / 7))

pub returns-in-2 : goal.returns-in-2
returns-in-2 c =
    least_here c.args.place 2 0 (omega (arith, c.if-place-lt11.false)) (omega (arith, c.in-2.is))
    (turns_least ((c.args.place - 11) / 7))

pub returns-in-3 : goal.returns-in-3
returns-in-3 c =
    least_here c.args.place 3 MOST_BELOW (omega (arith, c.if-place-lt11.false)) (omega (arith, c.in-3.is))
    (pushed_number_least ((c.args.place - 11) / 7))

pub returns-in-4 : goal.returns-in-4
returns-in-4 c =
    least_here c.args.place 4 0 (omega (arith, c.if-place-lt11.false)) (omega (arith, c.in-4.is))
    (pushed_length_least ((c.args.place - 11) / 7))
