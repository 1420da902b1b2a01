use Rattle.teco_paths.proofs.Prelude.{All, LeadsOn}
use Rattle.teco_paths.proofs.following.follow.Given as goal

-- where a run ends from the spots ahead, it ends from the first ones
abbrev pub invariant-spots : goal.invariant-spots
invariant-spots l = All (LeadsOn l.course) l.ahead.items → All (LeadsOn l.course) l.fn.spots.items
