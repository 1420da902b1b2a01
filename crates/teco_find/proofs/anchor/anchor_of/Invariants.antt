use Rattle.teco_find.proofs.Prelude.{IfSome, Anchors}
use Rattle.teco_find.proofs.Anchored.{AreSingle}
use Rattle.teco_find.proofs.anchor.anchor_of.Given as goal

-- each element that is passed matches one character
abbrev pub invariant-loop-distance : goal.invariant-loop-distance
invariant-loop-distance l = record {
  singles : AreSingle l.distance l.items;
  anchors : IfSome l.rarest (Anchors l.items);
}
