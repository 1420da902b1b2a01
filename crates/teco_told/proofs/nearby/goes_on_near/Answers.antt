use Rattle.std.proofs.Common.{◌≤◌, ap, ◌∙◌, arith, rules, subst}
use Rattle.teco_changes.specs.Nearby.{ImpliesNear, near_behind}
use Rattle.teco_law_changes.specs.Runs.{colon_of}
use Rattle.teco_told.specs.Seen.{near_in, near_seen}
use Rattle.teco_told.specs.Table.{before_in}
use Rattle.teco_told.proofs.NearTables.{LeadsNear}
use Rattle.teco_told.proofs.Ways.{all_ways, no_way, one_way}
use Rattle.teco_told.proofs.nearby.goes_on_near.Goals as goal

pub loop-at-init : goal.loop-at-init
loop-at-init c =
    no_way c.args.nodes.now (LeadsNear (before_in c.args.arguments.now) c.args.table.now) c.args.number

pub loop-at-preserved : goal.loop-at-preserved
loop-at-preserved c =
    let table = near_in c.args.table.now in
    one_way c.args.nodes.now (LeadsNear (before_in c.args.arguments.now) c.args.table.now) c.args.number c.loop-at.at
    c.in-Some.target c.way.result c.loop-at.invariant c.way.ensures c.in-Some.is
    (λ node there. subst (λ b. ImpliesNear b (table c.in-Some.target))
    (c.near_behind-behind.ensures node there
    ∙ ap (λ a. near_behind node.element (colon_of node) c.loop-at.at a (near_seen c.near_before-near.result))
    c.before-argument.ensures
    ∙ ap (near_behind node.element (colon_of node) c.loop-at.at (before_in c.args.arguments.now c.args.number))
    c.near_before-near.ensures)
    (subst (ImpliesNear (near_seen c.near_behind-behind.result)) c.near_before-there.ensures
    (c.implies_near.ensures (search rules))))

pub returns : goal.returns
returns c = λ ok.
    let end : c.ways-at-end.result ≤ c.loop-at.at = search rules in
    all_ways c.args.nodes.now (LeadsNear (before_in c.args.arguments.now) c.args.table.now) c.args.number c.loop-at.at
    c.loop-at.invariant (λ node there. omega (arith, end, c.ways-at-end.ensures node there))
