-- Counting along a list.
use Rattle.std.specs.Prelude.{ℕ, ◌≡◌, ◌+◌, ◌-◌, ◌<◌, List, length, slice_get, Some, Result, Ok, Err}

-- of a call that counts entries: it gives the last of this many, or how many are missing
abbrev pub Counted : List ℕ → ℕ → Result ℕ ℕ → Type 0
Counted entries count (Ok entry) = slice_get entries (count - 1) ≡ Some entry
Counted entries count (Err missing) = (0 < missing) × (length entries + missing ≡ count)
