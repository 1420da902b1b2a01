use Rattle.teco_find.proofs.Prelude.{◌≡◌, ◌≤◌, joined}
use Rattle.teco_model.specs.Match.{last_before}
use Rattle.teco_find.proofs.pattern.Pattern.last_before.Given as goal

-- no match starts at a place that is passed
abbrev pub invariant-loop-start : goal.invariant-loop-start
invariant-loop-start l = record {
  within : l.before ≤ l.at;
  same : last_before l.self (joined l.text) l.before ≡ last_before l.self (joined l.text) l.at;
}

abbrev pub decreases-loop-start : goal.decreases-loop-start
decreases-loop-start l = l.before
