use Rattle.teco_change_policies.proofs.following.keeps_others.Goals as goal

pub returns-then-is_simple : goal.returns-then-is_simple
returns-then-is_simple c = λ ok.
    c.swaps_keep_others.ensures c.args.wanted.now (c.is_simple.ensures c.if-is_simple.true) c.args.changes.now
    (c.is_each.ensures ok)
