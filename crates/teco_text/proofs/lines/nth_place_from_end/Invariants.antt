use Rattle.std.proofs.Common.{◌<◌, reverse}
use Rattle.std.specs.Iterator.Adapters.{rev_source}
use Rattle.teco_base.specs.Lines.{line_places_from}
use Rattle.teco_text.proofs.LineEnds.{AreInside, GoesOn, places_behind}
use Rattle.teco_text.proofs.lines.nth_place_from_end.Given as goal

-- what is missing is counted among the line ends to come, the last first
abbrev pub invariant-loop-i : goal.invariant-loop-i
invariant-loop-i l = record {
  some : 0 < l.left;
  inside : AreInside l.piece (rev_source l.i-iterator);
  on : GoesOn (reverse (line_places_from l.at l.piece)) l.count (reverse (places_behind l.at (rev_source l.i-iterator)))
      l.left;
}
