use Rattle.teco_facts.proofs.Shares.{modest, fits, counted, returned}
use Rattle.teco_facts.proofs.arithmetic.share.Goals as goal

pub overflow_mul-result : goal.overflow_mul-result
overflow_mul-result c =
    rw (counted c.args.distance c.args.times c.requires.within c.requires.small)
    (fits _ (modest c.args.distance c.args.times c.requires.within c.requires.small))

pub returns-clause-value : goal.returns-clause-value
returns-clause-value c = returned c.args.distance c.args.times c.requires.within c.requires.small

pub returns-clause-low : goal.returns-clause-low
returns-clause-low c =
    rw (returned c.args.distance c.args.times c.requires.within c.requires.small)
    (modest c.args.distance c.args.times c.requires.within c.requires.small).low

pub returns-clause-high : goal.returns-clause-high
returns-clause-high c =
    rw (returned c.args.distance c.args.times c.requires.within c.requires.small)
    (modest c.args.distance c.args.times c.requires.within c.requires.small).high
