use Rattle.teco_paths.proofs.Beginning.{all_there}
use Rattle.teco_paths.proofs.entry.present.Goals as goal

pub returns : goal.returns
returns c =
    all_there c.args.has_argument c.loop-place.all.items c.loop-place.place c.loop-place-test.false
    c.loop-place.invariant.count c.loop-place.invariant.same
