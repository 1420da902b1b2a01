use Rattle.std.proofs.Common.{◌≡◌, ◌-◌, ◌≤◌, length}
use Rattle.teco_library.proofs.Ahead.{IsReadTo}
use Rattle.teco_library.proofs.reading.spans_of.Given as goal

abbrev pub invariant-loop-reading : goal.invariant-loop-reading
invariant-loop-reading l = record {
  text : l.ahead.text ≡ l.file;
  within : l.ahead.place ≤ length l.file;
  read : IsReadTo l.file l.ahead.place l.spans;
}

abbrev pub decreases-loop-reading : goal.decreases-loop-reading
decreases-loop-reading l = length l.file - l.ahead.place
