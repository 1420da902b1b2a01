use Rattle.teco_check.proofs.Prelude.{◌≡◌, drop, arrivals_behind, changes_in, arrived_all, node_at}
use Rattle.teco_check.proofs.derivation.arrive_behind.Given as goal

-- the edges of the ways before this one arrived
abbrev pub invariant-loop-at : goal.invariant-loop-at
invariant-loop-at l =
    let node = node_at l.nodes l.chosen.number in
    let changes = changes_in l.nodes l.chosen.number in
    arrived_all (arrivals_behind changes l.chosen.choice node.element 0 node.ways l.edges) l.initial.arrived
    ≡ arrived_all (arrivals_behind changes l.chosen.choice node.element l.at (drop l.at node.ways) l.edges) l.arrived
