use Rattle.teco_facts.proofs.Prelude.{◌≡◌, take, replaced_where}
use Rattle.teco_facts.proofs.each.replace_where.Given as goal

-- the items before this one are done
abbrev pub invariant-loop-at : goal.invariant-loop-at
invariant-loop-at g l = l.items ≡ replaced_where l.other (take l.at l.replaced) l.initial.items
