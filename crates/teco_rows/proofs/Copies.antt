-- Copies of forms.
use Rattle.teco_rows.proofs.Prelude.{◌≡◌, ℕ, ◌<◌, List, Option, None, length, get_or, Term, Valuation, value_if}

pub record AreCopied (forms : List (Option (List Term))) (i : ℕ) (copies : List (Option (List Term))) : Type 0 where
  pub count : length copies ≡ i
  pub values : (n : ℕ) (v : Valuation) (k : ℕ) → k < i
      → value_if (get_or copies k None) n v ≡ value_if (get_or forms k None) n v
