use Rattle.teco_expansion.proofs.Prelude.{◌≡◌, ◌-◌, ◌≤◌, length, readings, crossed_seen}
use Rattle.teco_verifier.specs.expansion.Overlap as model
use Rattle.teco_expansion.proofs.overlap.crossed_between.Given as goal

abbrev pub invariant-loop-reading : goal.invariant-loop-reading
invariant-loop-reading l = record {
  text : l.ahead.text ≡ l.text;
  within : l.ahead.place ≤ length l.text;
  fits : l.way.begun ≤ l.ahead.place;
  same : model.crossed_to l.to (crossed_seen l.way) (readings l.text l.ahead.place) ≡ model.crossed l.text l.from l.to;
}

abbrev pub decreases-loop-reading : goal.decreases-loop-reading
decreases-loop-reading l = length l.text - l.ahead.place
