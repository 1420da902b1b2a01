use Rattle.teco_find.proofs.Prelude.{◌≡◌, ◌≤◌, ◌-◌, suc, length, joined}
use Rattle.teco_model.specs.Match.{forward}
use Rattle.teco_find.proofs.pattern.Pattern.forward.Given as goal

-- the matches that are left, from the last on, are those of all
abbrev pub invariant-loop-turn : goal.invariant-loop-turn
invariant-loop-turn l = record {
  within : l.at ≤ length (joined l.text);
  left : forward l.self (joined l.text) l.at (suc (l.n - l._turn)) ≡ forward l.self (joined l.text) l.from l.n;
}
