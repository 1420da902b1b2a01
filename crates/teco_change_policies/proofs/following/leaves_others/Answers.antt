use Rattle.teco_change_policies.proofs.following.leaves_others.Goals as goal

pub returns-then-are_simple : goal.returns-then-are_simple
returns-then-are_simple c = λ ok.
    c.others_are_left.ensures c.args.wanted.now (c.are_simple.ensures c.if-are_simple.true) c.args.changes.now
    (c.is_each.ensures ok)
