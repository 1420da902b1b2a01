use Rattle.teco_paths.proofs.Prelude.{◌≡◌, ℕ, ◌<◌, Option, slice_index_or}
use Rattle.teco_model.specs.declared.arguments.Operator.{Operator}
use Rattle.teco_paths.proofs.cut.are_same_waits.Given as goal

-- the same waits at the levels before this one
abbrev pub invariant-loop-at : goal.invariant-loop-at
invariant-loop-at l = (k : ℕ) (d : Option Operator) → k < l.at → slice_index_or l.one k d ≡ slice_index_or l.other k d
