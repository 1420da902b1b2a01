-- Visits, step by step.
use Rattle.teco_expansion.proofs.Prelude.{◌≡◌, ℕ, Bool, true, false, not, Ok, Err, refl, Visit, is_within, TooLarge}
use Rattle.teco_expansion.proofs.Prelude.{unless, ◌>>=◌}
use Rattle.teco_expansion.specs.Walks.{limited}

within : (b : Bool) (v : Visit) → b ≡ true → unless (not b) TooLarge >>= (λ few. Ok v) ≡ Ok v
within true v h = refl
within false v h = absurd (cc)

beyond : (b : Bool) (v : Visit) → b ≡ false → unless (not b) TooLarge >>= (λ few. Ok v) ≡ Err TooLarge
beyond true v h = absurd (cc)
beyond false v h = refl

pub limited-within : (number : ℕ) (v : Visit) → is_within number v ≡ true → limited number v ≡ Ok v
limited-within number v h = within (is_within number v) v h

pub limited-beyond : (number : ℕ) (v : Visit) → is_within number v ≡ false → limited number v ≡ Err TooLarge
limited-beyond number v h = beyond (is_within number v) v h
