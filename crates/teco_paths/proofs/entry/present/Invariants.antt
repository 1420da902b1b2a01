use Rattle.teco_paths.proofs.Prelude.{◌≡◌, ℕ, ◌<◌, length, false, slice_index_or, is_there, measure_of}
use Rattle.teco_paths.proofs.entry.present.Given as goal

-- so is each place before this one
abbrev pub invariant-loop-place : goal.invariant-loop-place
invariant-loop-place l = record {
  count : length l.all.items ≡ l.place;
  same : (k : ℕ) → k < l.place → slice_index_or l.all.items k false ≡ is_there l.has_argument (measure_of k);
}
