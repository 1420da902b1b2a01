use Rattle.teco_run.proofs.Prelude.{rules, sym, w32, to_z-of_z}
use Rattle.teco_run.proofs.arguments.give_value.Goals as goal

pub returns-in-One : goal.returns-in-One
returns-in-One g c =
    let number = to_z-of_z w32 c.in-One.number (search rules) in
    let is = rw c.in-One.is at c.value_of.ensures c.args.arguments.now.level in
    rw (sym is) (rw number at c.give.ensures)

pub returns-in-Two : goal.returns-in-Two
returns-in-Two g c =
    let first = to_z-of_z w32 c.in-Two.first (search rules) in
    let second = to_z-of_z w32 c.in-Two.second (search rules) in
    let is = rw c.in-Two.is at c.value_of.ensures c.args.arguments.now.level in
    rw (sym is) (rw (first, second) at c.give_both.ensures)
