use Rattle.teco_told.proofs.Grown.{pushed_is}
use Rattle.teco_told.proofs.list.add.Goals as goal

pub returns-in_ok-push-clause-grows : goal.returns-in_ok-push-clause-grows
returns-in_ok-push-clause-grows c =
    pushed_is c.args.changes.now.items c.push.new.self.items c.args.change c.in_ok-push.ensures.items
