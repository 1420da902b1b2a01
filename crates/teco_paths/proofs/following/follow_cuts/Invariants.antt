use Rattle.teco_paths.proofs.Prelude.{ℕ, ◌<◌, slice_index_or, CutState, IsFollowed}
use Rattle.teco_paths.proofs.following.follow_cuts.Given as goal

-- the cut points before this one are followed
abbrev pub invariant-loop-cut : goal.invariant-loop-cut
invariant-loop-cut l = (k : ℕ) (d : CutState) → k < l.cut-index → IsFollowed l.course (slice_index_or l.course.cuts k d)
