use Rattle.std.proofs.Common.{rules, subst}
use Rattle.teco_law_changes.specs.Runs.{AreNear}
use Rattle.teco_told.specs.Seen.{near_in}
use Rattle.teco_told.specs.Table.{before_in}
use Rattle.teco_told.proofs.nearby.known_near.Goals as goal

pub returns-then-is_near : goal.returns-then-is_near
returns-then-is_near c =
    subst (λ items. AreNear c.args.nodes.now (before_in c.args.arguments.now) (near_in items)) c.as_slice.ensures.value
    (c.is_near.ensures (search rules))
