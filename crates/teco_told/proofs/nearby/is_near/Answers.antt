use Rattle.std.proofs.Common.{rules, subst}
use Rattle.teco_changes.specs.Nearby.{ImpliesNear, Known, Nothing, anything}
use Rattle.teco_changes.specs.declared.argument.Pending.TheVariants.{Anything}
use Rattle.teco_told.specs.Seen.{near_seen}
use Rattle.teco_told.specs.Table.{before_in}
use Rattle.teco_told.proofs.NearTables.{LeadsNear, all_near}
use Rattle.teco_told.proofs.Ways.{none_agrees, one_agrees}
use Rattle.teco_told.proofs.nearby.is_near.Goals as goal

pub loop-number-init : goal.loop-number-init
loop-number-init c = none_agrees c.args.nodes.now (LeadsNear (before_in c.args.arguments.now) c.args.table.now)

pub loop-number-preserved : goal.loop-number-preserved
loop-number-preserved c =
    one_agrees c.args.nodes.now (LeadsNear (before_in c.args.arguments.now) c.args.table.now) c.loop-number.number
    c.loop-number.invariant (c.goes_on_near.ensures (search rules))

pub returns : goal.returns
returns c = λ ok.
    all_near c.args.nodes.now (before_in c.args.arguments.now) c.args.table.now c.loop-number.number
    (subst (ImpliesNear anything) c.near_before-first.ensures
    (subst (λ characters. ImpliesNear (Known Nothing Anything characters) (near_seen c.near_before-first.result))
    c.no_characters.ensures (c.implies_near.ensures (search rules))))
    c.loop-number.invariant (search rules)
