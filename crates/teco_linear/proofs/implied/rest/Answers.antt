use Rattle.teco_linear.proofs.Prelude.{arith, ◌∙◌, [], get_or, ◌≡◌, ints}
use Rattle.std.proofs.lemmas.Grind.{common_steps}
use Rattle.teco_linear.proofs.Integers.{passed}
use Rattle.teco_linear.proofs.Judging.{IsTaken-none, IsTaken-more, multiplier_at}
use Rattle.teco_linear.proofs.implied.rest.Goals as goal

pub loop-multiplier-init : goal.loop-multiplier-init
loop-multiplier-init c =
    IsTaken-none c.args.constraints.now c.args.multipliers.now c.args.divisor c.args.target.now
    c.in_ok-rounding.rounding
    c.in_ok-multiple.multiple c.in_ok-rest.rest (passed c.from.result)
    (λ n v. c.in_ok-rounding.ensures n v ∙ (omega (arith, ints))) (omega (arith, ints)) c.in_ok-multiple.ensures
    c.in_ok-rest.ensures

pub loop-multiplier-preserved : goal.loop-multiplier-preserved
loop-multiplier-preserved c =
    let among : c.in-Some.constraint.now ≡ get_or c.args.constraints.now
    (multiplier_at c.args.multipliers.now c.loop-multiplier.multiplier-index).constraint [] =
    grind (arith, common_steps) in
    IsTaken-more c.args.constraints.now c.args.multipliers.now c.args.divisor c.args.target.now c.loop-multiplier.rest
    c.in_ok-rest-2.rest
    c.in-Some.constraint.now c.in_ok-taken.taken c.negated.result c.loop-multiplier.multiplier-index (omega arith)
    among c.negated.ensures
    c.in_ok-taken.ensures c.in_ok-rest-2.ensures c.loop-multiplier.invariant
