use Rattle.teco_paths.proofs.Prelude.{◌≡◌, subst, arith, length, ◌-◌, Some, from_end}
use Rattle.std.proofs.Common.{rules}
use Rattle.teco_paths.proofs.Meant.{got_from_end}
use Rattle.teco_paths.proofs.translated.iteration_of.Goals as goal

pub returns-then-eq : goal.returns-then-eq
returns-then-eq c node is =
    let starts = node.stand.iterations in
    let place : length starts - 1 - c.loop-at.at ≡ c.in-Ok.place =
    omega (arith, c.open-open.ensures node is, c.in-Ok.ensures) in
    subst (λ i. from_end starts i ≡ Some c.args.begin) place
    (got_from_end starts c.loop-at.at c.args.begin (search rules))
