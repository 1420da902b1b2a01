use Rattle.teco_find.proofs.Prelude.{◌≡◌, ◌≤◌, ◌-◌, suc, length, sought, joined}
use Rattle.teco_find.proofs.pattern.Pattern.seek.Given as goal

-- the matches that are left, from the last on, are those of all
abbrev pub invariant-loop-turn : goal.invariant-loop-turn
invariant-loop-turn l = record {
  within : l.at ≤ length (joined l.text);
  left : sought l.self (joined l.text) l.at (suc (l.n - l.turn)) ≡ sought l.self (joined l.text) l.from l.n;
}
