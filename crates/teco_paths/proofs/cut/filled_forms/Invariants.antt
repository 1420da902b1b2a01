use Rattle.teco_paths.proofs.Prelude.{◌≡◌, ℕ, ◌<◌, length, [], None, slice_index_or, Valuation, value, filled_by}
use Rattle.teco_paths.proofs.cut.filled_forms.Given as goal

-- so are the forms before this one
abbrev pub invariant-loop-place : goal.invariant-loop-place
invariant-loop-place l = record {
  count : length l.all.items ≡ l.place;
  same : (k : ℕ) → k < l.place → (n : ℕ) (v : Valuation)
      → value (slice_index_or l.all.items k []) n v ≡ value (filled_by (slice_index_or l.forms k None)) n v;
}
