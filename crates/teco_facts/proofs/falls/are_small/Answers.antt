use Rattle.teco_facts.proofs.Prelude.{rules, arith}
use Rattle.teco_facts.proofs.Least.{small_more}
use Rattle.teco_facts.proofs.falls.are_small.Goals as goal

pub loop-at-preserved : goal.loop-at-preserved
loop-at-preserved c =
    small_more c.as_slice-falls.result.now c.loop-at.at c.index-falls-at.result
    (omega arith) c.loop-at.invariant c.index-falls-at.is (c.is_small.ensures.0 (search rules))
