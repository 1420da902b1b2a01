use Rattle.teco_check.proofs.Prelude.{◌≡◌, ◌-◌, take, drop, list_any, Node, ends_saved}
use Rattle.teco_check.proofs.iterations.ends_in.Given as goal

-- whether a node before this one ends all
abbrev pub invariant-loop-at : goal.invariant-loop-at
invariant-loop-at l = l.ended ≡ list_any (λ (node : Node). ends_saved node.element)
    (take (l.at - l.begin) (drop l.begin l.nodes))
