use Rattle.teco_policy.specs.Lines.{lines}
use Rattle.teco_policy.proofs.Differences.{between_counted}
use Rattle.teco_policy.proofs.changes.changed_between.Goals as goal

pub returns : goal.returns
returns c =
    let rest = c.walk-rest.result in
    between_counted (lines c.args.old.now) (lines c.args.new.now) rest.count (lines rest.old.now) (lines rest.new.now)
    c.walk-rest.ensures.walks c.left_without_end.result c.left_without_end.ensures
