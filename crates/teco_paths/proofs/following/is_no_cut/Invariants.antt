use Rattle.teco_paths.proofs.Prelude.{ℕ, ◌<◌, CutState}
use Rattle.std.specs.Prelude.{◌≢◌, slice_index_or}
use Rattle.teco_paths.proofs.following.is_no_cut.Given as goal

-- the cut points before this one are at other nodes
abbrev pub invariant-loop-cut : goal.invariant-loop-cut
invariant-loop-cut l = (k : ℕ) (d : CutState) → k < l.cut-index → (slice_index_or l.course.cuts k d).number ≢ l.number
