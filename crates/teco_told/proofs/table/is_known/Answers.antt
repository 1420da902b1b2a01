use Rattle.std.proofs.Common.{rules, subst}
use Rattle.teco_changes.specs.Arguments.{Implies}
use Rattle.teco_changes.specs.declared.argument.NumericArgument.TheVariants as known
use Rattle.teco_told.proofs.Tables.{LeadsBy, all_known}
use Rattle.teco_told.proofs.Ways.{none_agrees, one_agrees}
use Rattle.teco_told.proofs.table.is_known.Goals as goal

pub loop-number-init : goal.loop-number-init
loop-number-init c = none_agrees c.args.nodes.now (LeadsBy c.args.table.now)

pub loop-number-preserved : goal.loop-number-preserved
loop-number-preserved c =
    one_agrees c.args.nodes.now (LeadsBy c.args.table.now) c.loop-number.number c.loop-number.invariant
    (c.goes_on.ensures (search rules))

pub returns : goal.returns
returns c = λ ok.
    all_known c.args.nodes.now c.args.table.now c.loop-number.number
    (subst (Implies known.Complete) c.before-2.ensures (c.implies.ensures (search rules)))
    c.loop-number.invariant (search rules)
