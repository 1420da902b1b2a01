use Rattle.std.specs.Prelude.{ℕ, ◌<◌, slice_index_or}
use Rattle.teco_rows.specs.declared.outcomes.Guarded.{Guarded}
use Rattle.teco_implied.specs.Implied.{IsKept}
use Rattle.teco_implied.proofs.implied.are_guarded.Given as goal

-- those before this one are
abbrev pub invariant-loop-guarded : goal.invariant-loop-guarded
invariant-loop-guarded l =
    (k : ℕ) (d : Guarded) → k < l.guarded-index → IsKept (slice_index_or l.all k d)
