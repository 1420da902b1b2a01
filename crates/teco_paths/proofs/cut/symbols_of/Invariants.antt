use Rattle.teco_paths.proofs.Prelude.{◌≡◌, ℕ, ◌<◌, length, Some, None, false, slice_index_or, if◌then◌else◌, Valuation}
use Rattle.teco_paths.proofs.Prelude.{value_if}
use Rattle.teco_paths.proofs.cut.symbols_of.Given as goal

-- so do the places before this one
abbrev pub invariant-loop-place : goal.invariant-loop-place
invariant-loop-place l = record {
  count : length l.forms.items ≡ l.place;
  same : (k : ℕ) → k < l.place → (n : ℕ) (v : Valuation)
      → value_if (slice_index_or l.forms.items k None) n v ≡
      (if slice_index_or l.present k false then Some (v k) else None);
}
