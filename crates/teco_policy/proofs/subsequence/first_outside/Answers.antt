use Rattle.std.proofs.Common.{[], arith}
use Rattle.teco_policy.proofs.Subsequences.{all_is_within, first_is_outside}
use Rattle.teco_policy.proofs.subsequence.first_outside.Goals as goal

pub returns-in-None-clause-first : goal.returns-in-None-clause-first
returns-in-None-clause-first c =
    first_is_outside c.args.besides.now c.args.part.now c.args.whole.now c.loop-at.rest.now c.loop-at.at
    (omega arith) c.loop-at.invariant (c.in-None.ensures [])

pub returns-clause-first : goal.returns-clause-first
returns-clause-first c =
    all_is_within c.args.besides.now c.args.part.now c.args.whole.now c.loop-at.rest.now c.loop-at.at
    (omega arith) c.loop-at.invariant
