use Rattle.std.specs.Prelude.{⊤}
use Rattle.teco_paths.proofs.following.is_said.Given as goal

-- no more is to be known
abbrev pub invariant-loop-cut : goal.invariant-loop-cut
invariant-loop-cut l = ⊤
