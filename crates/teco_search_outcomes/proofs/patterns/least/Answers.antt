use Rattle.teco_search_outcomes.proofs.Prelude.{◌≡◌, [], ◌∷◌, arith, get_or, pos, subst, common_steps, ints, value}
use Rattle.teco_search_outcomes.proofs.Parting.{count, count_all, count_more, no_part}
use Rattle.teco_search_outcomes.proofs.patterns.least.Goals as goal

pub loop-part-preserved : goal.loop-part-preserved
loop-part-preserved c = λ exact n v s true_of whole.
    let at : c.part-item.result ≡ get_or c.args.parts.now c.loop-part.part-index no_part = grind
    (arith, common_steps) in
    let more = subst (λ p. value c.in_ok-more.more n v ≡ pos (count s.kept.registers exact (p ∷ []))) at
    (c.in_ok-more.ensures exact n v s true_of whole) in
    omega (
      arith,
      ints,
      c.loop-part.invariant exact n v s true_of whole,
      c.in_ok-sum.ensures n v,
      more,
      count_more s.kept.registers exact c.args.parts.now c.loop-part.part-index c.loop-part-test.true,
    )

pub returns : goal.returns
returns c = λ exact n v s true_of whole.
    omega (
      arith,
      ints,
      c.loop-part.invariant exact n v s true_of whole,
      count_all s.kept.registers exact c.args.parts.now c.loop-part.part-index c.loop-part-test.false,
    )
