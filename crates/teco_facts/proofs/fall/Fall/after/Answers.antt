use Rattle.teco_facts.proofs.Prelude.{◌<ℤ◌, arith, ints, unknown}
use Rattle.teco_facts.proofs.Least.{kept_known, after_known, small_known}
use Rattle.teco_facts.proofs.fall.Fall.after.Goals as goal

pub invariant_of-result : goal.invariant_of-result
invariant_of-result c = kept_known _ (omega (arith, ints))

pub returns-in-Some : goal.returns-in-Some
returns-in-Some c =
    let above : unknown <ℤ c.self.inside.least = omega (arith, ints, c.if-self-gt-UNKNOWN.true) in
    let near = rw c.in-Some.is at c.requires.near in
    let small = small_known c.self.inside.least above (rw (← c.self.view_is) at c.requires.small) in
    rw (← c.self.view_is, c.in-Some.is)
    (after_known c.self.inside.least c.in-Some.by _ above
    (omega (arith, ints, near.low, near.high, small.low, small.high))
    (omega (arith, ints, near.low, near.high, small.low, small.high)))
