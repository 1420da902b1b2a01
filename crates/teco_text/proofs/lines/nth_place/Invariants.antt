use Rattle.std.proofs.Common.{◌<◌}
use Rattle.teco_base.specs.Lines.{line_places_from}
use Rattle.teco_text.proofs.LineEnds.{AreInside, GoesOn, places_behind}
use Rattle.teco_text.proofs.lines.nth_place.Given as goal

-- what is missing is counted among the line ends to come
abbrev pub invariant-loop-i : goal.invariant-loop-i
invariant-loop-i l = record {
  some : 0 < l.left;
  inside : AreInside l.piece l.i-iterator;
  on : GoesOn (line_places_from l.at l.piece) l.count (places_behind l.at l.i-iterator) l.left;
}
