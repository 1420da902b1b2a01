use Rattle.teco_check.proofs.Prelude.{◌≡◌, drop, option_map, arrive, node_at}
use Rattle.teco_model.specs.Element as elements
use Rattle.teco_check.proofs.closed.arrive.Given as goal

-- the ways before this one arrive
abbrev pub invariant-loop-at : goal.invariant-loop-at
invariant-loop-at l =
    let read = option_map elements.seen l.read in
    let ways = (node_at l.nodes l.number).ways in
    arrive l.nodes l.table read l.edges 0 ways ≡ arrive l.nodes l.table read l.edges l.at (drop l.at ways)
