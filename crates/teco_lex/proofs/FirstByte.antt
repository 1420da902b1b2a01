-- The first place of a byte, as memchr tells it.
use Rattle.std.proofs.Common.{◌≡◌, ℕ, zero, suc, ◌+◌, ◌<◌, List, [], ◌∷◌, length, Bool, true, false, cond, not}
use Rattle.std.proofs.Common.{nat_lt, position, Option, Some, None, refl, ap, sym, arith}
use Rattle.std.specs.List.{position_or_len}
use Rattle.std.proofs.lemmas.Bool.{le-leb, lt-leb}
use Rattle.memchr.specs.Find.{IsFirstByte, Passes}

module _ (p : ℕ → Bool) where
  none_passes : (bytes : List ℕ) → ((k : ℕ) → k < length bytes → ¬ Passes p bytes k)
      → position_or_len p bytes ≡ length bytes
  none_passes [] h = refl
  none_passes (b ∷ bytes) h = among (p b) refl (none_passes bytes (λ k l. h (suc k) (omega arith)))
    where
      among : (t : Bool) → p b ≡ t → position_or_len p bytes ≡ length bytes
          → cond (not t) (1 + position_or_len p bytes) 0 ≡ suc (length bytes)
      among true e g = absurd (h 0 (omega arith) e)
      among false e g = omega (arith, g)

  first_passes : (bytes : List ℕ) (k : ℕ) → k < length bytes → Passes p bytes k → ((j : ℕ) → j < k → ¬ Passes p bytes j)
      → position_or_len p bytes ≡ k
  first_passes [] k l h before = absurd (omega arith)
  first_passes (b ∷ bytes) zero l h before = rw h refl
  first_passes (b ∷ bytes) (suc k) l h before =
      among (p b) refl (first_passes bytes k (omega arith) h (λ j m. before (suc j) (omega arith)))
    where
      among : (t : Bool) → p b ≡ t → position_or_len p bytes ≡ k → cond (not t) (1 + position_or_len p bytes) 0 ≡ suc k
      among true e g = absurd (before 0 (omega arith) e)
      among false e g = omega (arith, g)

  pub first_byte : (bytes : List ℕ) (r : Option ℕ) → IsFirstByte p bytes r → r ≡ position p bytes
  first_byte bytes None h =
      let all = none_passes bytes (λ k l. h k (omega arith) l) in
      let over : nat_lt (position_or_len p bytes) (length bytes) ≡ false =
      lt-leb (suc (position_or_len p bytes)) (length bytes) (omega (arith, all)) in
      rw over refl
  first_byte bytes (Some k) h =
      let at = first_passes bytes k h.0.high h.1 (λ j m. h.0.before j (omega arith) m) in
      let inside : nat_lt (position_or_len p bytes) (length bytes) ≡ true =
      le-leb (suc (position_or_len p bytes)) (length bytes) (omega (arith, at, h.0.high)) in
      rw inside (ap Some (sym at))
