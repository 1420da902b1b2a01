use Rattle.teco_paths.proofs.Prelude.{◌≡◌, ℕ, ◌<◌, None, false, slice_index_or, is_some}
use Rattle.teco_paths.proofs.cut.are_marked.Given as goal

-- so are the places before this one
abbrev pub invariant-loop-place : goal.invariant-loop-place
invariant-loop-place l =
    (k : ℕ) → k < l.place → slice_index_or l.present k false ≡ is_some (slice_index_or l.forms k None)
