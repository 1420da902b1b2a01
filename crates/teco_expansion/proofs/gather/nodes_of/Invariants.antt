use Rattle.teco_expansion.proofs.Prelude.{◌≡◌, ◌+◌, map, drop, nodes_at, visit_seen, node_seen, library_of, walk_seen}
use Rattle.teco_expansion.proofs.Gathering.{before}
use Rattle.teco_expansion.proofs.gather.nodes_of.Given as goal

abbrev pub invariant-loop-at : goal.invariant-loop-at
invariant-loop-at l =
    let library = library_of l.texts in
    let entry = l.texts.entry in
    let w = walk_seen l.texts l.walk in
    let vs = map (visit_seen l.texts) l.walk.visits.items in
    nodes_at library entry w 1 vs ≡ before (map (node_seen l.texts) l.nodes.items)
    (nodes_at library entry w (l.at + 1) (drop l.at vs))
