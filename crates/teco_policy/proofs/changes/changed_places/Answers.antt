use Rattle.std.proofs.Common.{length}
use Rattle.teco_policy.specs.Lines.{lines}
use Rattle.teco_policy.proofs.Differences.{count_on}
use Rattle.teco_policy.proofs.changes.changed_places.Goals as goal

pub loop-a-preserved : goal.loop-a-preserved
loop-a-preserved c =
    let a = c.in-Some.a in
    let b = c.in-Some.b in
    count_on (lines c.args.old.now) (lines c.args.new.now) c.loop-a.count c.change_of-count.result
    (length c.args.old.now) c.loop-a.rest.0.now c.loop-a.rest.1.now a.body.now a.end.now a.rest.now b.body.now b.end.now
    b.rest.now c.loop-a.invariant.0 c.loop-a.invariant.1 c.loop-a.invariant.2 c.in-Some.ensures.old
    c.in-Some.ensures.new c.change_of-count.ensures.counts c.change_of-count.ensures.few
