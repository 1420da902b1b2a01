use Rattle.teco_paths.proofs.Prelude.{IsEntryClaim}
use Rattle.teco_paths.proofs.Beginning.{least_claim, most_claim}
use Rattle.teco_paths.proofs.Lists.{all_last}
use Rattle.teco_paths.proofs.entry.add_between.Goals as goal

pub returns : goal.returns
returns c lengths argument between claims =
    let P = IsEntryClaim lengths argument in
    all_last P c.push.new.self.items c.push-2.new.self.items c.in_ok-below.below c.in_ok-push-2.ensures.items
    (all_last P c.args.claims.now.items c.push.new.self.items c.in_ok-above.above c.in_ok-push.ensures.items claims
    (least_claim lengths argument c.args.symbol c.args.least c.args.most c.in_ok-above.above between
    c.in_ok-above.ensures))
    (most_claim lengths argument c.args.symbol c.args.least c.args.most c.in_ok-below.below between
    c.in_ok-below.ensures)
