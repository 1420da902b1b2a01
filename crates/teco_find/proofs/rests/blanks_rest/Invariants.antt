use Rattle.teco_find.proofs.Prelude.{◌≡◌, ◌≤◌, length, joined}
use Rattle.teco_model.specs.Match.{is_space_or_tab, run_rest}
use Rattle.teco_find.proofs.rests.blanks_rest.Given as goal

-- what is left of the run ends where all of it does
abbrev pub invariant-loop-c : goal.invariant-loop-c
invariant-loop-c l = record {
  within : length (joined l.rest) ≤ length (joined l.text);
  rests : run_rest is_space_or_tab (joined l.rest) ≡ run_rest is_space_or_tab (joined l.text);
}

abbrev pub decreases-loop-c : goal.decreases-loop-c
decreases-loop-c l = length (joined l.rest)
