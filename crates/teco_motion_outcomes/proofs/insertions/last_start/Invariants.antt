use Rattle.teco_motion_outcomes.proofs.Prelude.{◌≡◌, pos, line_place}
use Rattle.teco_motion_outcomes.proofs.insertions.last_start.Given as goal

-- where the line starts at the place
abbrev pub invariant-loop-place : goal.invariant-loop-place
invariant-loop-place l = l.start ≡ line_place l.text l.place (pos 0)
