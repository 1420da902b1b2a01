use Rattle.std.proofs.Common.{◌≡◌, ◌-◌, ◌≤◌, length}
use Rattle.teco_model.specs.Ahead.{readings}
use Rattle.teco_model.specs.Skip as model
use Rattle.teco_lex.proofs.skips.tag_skip.Given as goal

abbrev pub invariant-loop-reading : goal.invariant-loop-reading
invariant-loop-reading l = record {
  text : l.ahead.text ≡ l.text;
  within : l.ahead.place ≤ length l.text;
  fits : l.inner ≤ l.ahead.place;
  few : l.leaves ≤ l.ahead.place;
  same : model.tag_skip l.tag l.inner l.leaves (readings l.text l.ahead.place) ≡ model.tag_skip l.tag 0 0
      (readings l.text l.at);
}

abbrev pub decreases-loop-reading : goal.decreases-loop-reading
decreases-loop-reading l = length l.text - l.ahead.place
