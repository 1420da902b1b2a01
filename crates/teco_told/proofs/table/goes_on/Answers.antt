use Rattle.std.proofs.Common.{◌≤◌, ap, ◌∙◌, arith, rules, subst}
use Rattle.teco_changes.specs.Arguments.{Implies, behind}
use Rattle.teco_told.specs.Table.{before_in}
use Rattle.teco_told.proofs.Tables.{LeadsBy}
use Rattle.teco_told.proofs.Ways.{all_ways, no_way, one_way}
use Rattle.teco_told.proofs.table.goes_on.Goals as goal

pub loop-at-init : goal.loop-at-init
loop-at-init c = no_way c.args.nodes.now (LeadsBy c.args.table.now) c.args.number

pub loop-at-preserved : goal.loop-at-preserved
loop-at-preserved c =
    one_way c.args.nodes.now (LeadsBy c.args.table.now) c.args.number c.loop-at.at c.in-Some.target c.way.result
    c.loop-at.invariant c.way.ensures c.in-Some.is
    (λ node there. subst (λ b. Implies b (before_in c.args.table.now c.in-Some.target))
    (c.behind_node-known.ensures node there ∙ ap (behind node.element) c.before-2.ensures)
    (subst (Implies c.behind_node-known.result) c.before-in-loop-at.ensures (c.implies.ensures (search rules))))

pub returns : goal.returns
returns c = λ ok.
    let end : c.ways-at-end.result ≤ c.loop-at.at = search rules in
    all_ways c.args.nodes.now (LeadsBy c.args.table.now) c.args.number c.loop-at.at c.loop-at.invariant
    (λ node there. omega (arith, end, c.ways-at-end.ensures node there))
