use Rattle.teco_check.proofs.Prelude.{sym, ◌∙◌, option_map, rules, arith, node_at}
use Rattle.teco_model.specs.Element as elements
use Rattle.teco_check.proofs.Further.{arrive_more, arrive_fails, none_behind, onward_arrives}
use Rattle.teco_check.proofs.closed.arrive.Goals as goal
use Rattle.teco_check.proofs.closed.arrive.Goals.{in-Some+else-not-arrives, in_default}

pub returns-then-not-arrives : goal.returns-then-not-arrives
returns-then-not-arrives c =
    let nodes = c.args.nodes.now in
    let read = option_map elements.seen c.args.read.now in
    let ways = (node_at nodes c.args.number).ways in
    sym
    (c.loop-at.invariant
    ∙ arrive_fails nodes c.args.table.now read c.args.edges.now c.loop-at.at c.in-Some.target ways
    (sym c.way.ensures ∙ c.in-Some.is)
    (onward_arrives nodes c.args.table.now read c.loop-at.at c.in-Some.target c.args.edges.now
    ∙ rw (← c.onward.ensures) (sym c.arrives.ensures ∙ search rules)))

pub loop-at-preserved : goal.loop-at-preserved
loop-at-preserved c =
    let nodes = c.args.nodes.now in
    let read = option_map elements.seen c.args.read.now in
    let ways = (node_at nodes c.args.number).ways in
    elim c.match-way.branch [
      | in-Some+else-not-arrives w ↦ c.loop-at.invariant
          ∙ arrive_more nodes c.args.table.now read c.args.edges.now c.loop-at.at w.in-Some.target ways
          (sym c.way.ensures ∙ w.in-Some.is)
          (onward_arrives nodes c.args.table.now read c.loop-at.at w.in-Some.target c.args.edges.now
          ∙ rw (← w.onward.ensures) (sym w.arrives.ensures ∙ search rules))
      | in_default w ↦ absurd (omega (
        arith,
        none_behind ways c.loop-at.at (sym c.way.ensures ∙ w.in_default.is),
        c.ways-at-end.ensures,
      ))
    ]
