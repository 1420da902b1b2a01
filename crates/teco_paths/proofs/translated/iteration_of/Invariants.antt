use Rattle.std.specs.Prelude.{⊤}
use Rattle.teco_paths.proofs.translated.iteration_of.Given as goal

-- no more is to be known
abbrev pub invariant-loop-at : goal.invariant-loop-at
invariant-loop-at l = ⊤
