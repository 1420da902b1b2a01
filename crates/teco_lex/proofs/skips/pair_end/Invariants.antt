use Rattle.std.proofs.Common.{◌≡◌, ◌-◌, ◌≤◌, length}
use Rattle.teco_model.specs.Ahead.{readings}
use Rattle.teco_model.specs.Skip as model
use Rattle.teco_lex.proofs.skips.pair_end.Given as goal

abbrev pub invariant-loop-reading : goal.invariant-loop-reading
invariant-loop-reading l = record {
  text : l.ahead.text ≡ l.text;
  within : l.ahead.place ≤ length l.text;
  fits : l.inner ≤ l.ahead.place;
  same : model.pair_end l.pairs l.inner (readings l.text l.ahead.place) ≡ model.pair_end l.pairs 0
      (readings l.text l.at);
}

abbrev pub decreases-loop-reading : goal.decreases-loop-reading
decreases-loop-reading l = length l.text - l.ahead.place
