use Rattle.teco_facts.proofs.Prelude.{◌≡◌, ◌++◌, take, drop, each_met}
use Rattle.teco_facts.proofs.each.meet_each.Given as goal

-- the items before this one are joined
abbrev pub invariant-loop-at : goal.invariant-loop-at
invariant-loop-at g l = l.one ≡ each_met g.T.Meets.met (take l.at l.initial.one) (take l.at l.two)
    ++ drop l.at l.initial.one
