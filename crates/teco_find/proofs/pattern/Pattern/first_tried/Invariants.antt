use Rattle.teco_find.proofs.Prelude.{◌≡◌, ◌≤◌, ◌-◌, length, joined}
use Rattle.teco_model.specs.Match.{first_from}
use Rattle.teco_find.proofs.pattern.Pattern.first_tried.Given as goal

-- no match starts at a place that is passed
abbrev pub invariant-loop-start : goal.invariant-loop-start
invariant-loop-start l = record {
  within : l.from ≤ length (joined l.text);
  same : first_from l.self (joined l.text) l.from ≡ first_from l.self (joined l.text) l.at;
}

abbrev pub decreases-loop-start : goal.decreases-loop-start
decreases-loop-start l = length (joined l.text) - l.from
