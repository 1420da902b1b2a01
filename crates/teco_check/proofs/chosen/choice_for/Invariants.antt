use Rattle.teco_check.proofs.Prelude.{◌≡◌, drop, chosen_for}
use Rattle.teco_check.proofs.chosen.choice_for.Given as goal

-- those before this one are for others
abbrev pub invariant-loop-other : goal.invariant-loop-other
invariant-loop-other l = chosen_for l.number l.chosen ≡ chosen_for l.number (drop l.other-index l.chosen)
