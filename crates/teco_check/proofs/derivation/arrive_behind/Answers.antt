use Rattle.teco_check.proofs.Prelude.{◌≡◌, sym, ◌∙◌, Some, None, arith, arriving, changes_in, node_at}
use Rattle.teco_check.proofs.Further.{some_arrives, none_arrives, none_behind}
use Rattle.teco_check.proofs.derivation.arrive_behind.Goals as goal
use Rattle.teco_check.proofs.derivation.arrive_behind.Goals.{in-Some+in_ok-facts+in-Some-2+in_ok-put}
use Rattle.teco_check.proofs.derivation.arrive_behind.Goals.{in-Some+in_ok-facts+in_default-2, in_default}

pub loop-at-preserved : goal.loop-at-preserved
loop-at-preserved c =
    let nodes = c.args.nodes.now in
    let node = node_at nodes c.args.chosen.now.number in
    let changes = changes_in nodes c.args.chosen.now.number in
    let read = c.element-read.ensures.read in
    elim c.match-way.branch [
      | in-Some+in_ok-facts+in-Some-2+in_ok-put w ↦
          let facts : arriving changes c.args.chosen.now.choice node.element c.loop-at.at c.args.edges.now ≡ Some
          w.in-Some-2.facts = rw (← read) (sym w.in_ok-facts.ensures ∙ w.in-Some-2.is) in
          c.loop-at.invariant ∙ rw (w.arrived-is, (rw w.in_ok-put.was at w.put.ensures))
          (some_arrives changes c.args.chosen.now.choice node.element c.args.edges.now c.loop-at.at w.in-Some.target
          node.ways c.loop-at.arrived (sym c.way.ensures ∙ w.in-Some.is) w.in-Some-2.facts facts)
      | in-Some+in_ok-facts+in_default-2 w ↦
          let none : arriving changes c.args.chosen.now.choice node.element c.loop-at.at c.args.edges.now ≡ None =
          rw (← read) (sym w.in_ok-facts.ensures ∙ w.in_default-2.is) in
          c.loop-at.invariant ∙ rw w.arrived-is
          (none_arrives changes c.args.chosen.now.choice node.element c.args.edges.now c.loop-at.at w.in-Some.target
          node.ways c.loop-at.arrived (sym c.way.ensures ∙ w.in-Some.is) none)
      | in_default w ↦ absurd (omega (
        arith,
        none_behind node.ways c.loop-at.at (sym c.way.ensures ∙ w.in_default.is),
        c.ways-at-end.ensures,
      ))
    ]
