use Rattle.teco_find.proofs.Anchored.{one_more, anchored}
use Rattle.teco_find.proofs.anchor.anchor_of.Goals as goal
use Rattle.teco_find.proofs.anchor.anchor_of.Goals.{in-Some+then-mark_frequency-least, in_default-2}

pub loop-distance-preserved : goal.loop-distance-preserved
loop-distance-preserved c = record {
  singles = one_more c.args.items.now c.loop-distance.distance _ c.loop-distance-test.true
      c.loop-distance.invariant.singles c.in_default.not-Blanks;
  anchors = elim c.match-mark_of.branch [
    | in-Some+then-mark_frequency-least w ↦ rw w.rarest-is
        (anchored c.args.items.now c.loop-distance.distance _ w.in-Some.mark c.loop-distance-test.true
        c.loop-distance.invariant.singles w.in-Some.ensures)
    | in_default-2 w ↦ rw w.rarest-is c.loop-distance.invariant.anchors
  ];
}
