-- The codes of the characters at a place and before it.
use Rattle.teco_rows.proofs.Prelude.{◌≡◌, ℕ, zero, suc, ◌+◌, ◌≤◌, ◌<◌, ◌==◌, ◌⊎◌, inl, inr, ◌∙◌, arith, refl, ap, List}
use Rattle.teco_rows.proofs.Prelude.{ℤ, pos, [], ◌∷◌, length, get_or, Bool, true, false, if◌then◌else◌, nat_tests}
use Rattle.teco_rows.proofs.Prelude.{is_line_end}
use Rattle.teco_model.specs.laws.Whole.{AreBytes}
use Rattle.teco_rows.specs.States.{code_here, code_before}
use Rattle.teco_rows.proofs.Lines.{ends}

-- a character that is there is a byte, and outside there is none
pub code_inside : (text : List ℕ) (k : ℕ) → k < length text → AreBytes text
    → (c : ℕ) × (code_here text k ≡ c + 1) × (c < 256) × (get_or text k 0 ≡ c)
code_inside [] k h bytes = absurd (omega arith)
code_inside (c ∷ text) zero h bytes = (c, refl, bytes.0, refl)
code_inside (c ∷ text) (suc k) h bytes = code_inside text k (omega arith) bytes.1

pub code_outside : (text : List ℕ) (k : ℕ) → length text ≤ k → code_here text k ≡ 0
code_outside [] k h = refl
code_outside (c ∷ text) zero h = absurd (omega arith)
code_outside (c ∷ text) (suc k) h = code_outside text k (omega arith)

-- what is at a place is before the next one
pub before_next : (text : List ℕ) (p k : ℕ) → k ≡ p + 1 → code_before text k ≡ code_here text p
before_next text p zero h = absurd (omega arith)
before_next text p (suc k) h = let e : k ≡ p = omega (arith, h) in ap (code_here text) e

-- a character ends its line, or is below or above those that do
pub data Sort (text : List ℕ) (k : ℕ) : Type 0 where
  ends_one : ends text k ≡ true → 11 ≤ code_here text k → code_here text k ≤ 13 → Sort text k
  is_low : ends text k ≡ false → 1 ≤ code_here text k → code_here text k ≤ 10 → Sort text k
  is_high : ends text k ≡ false → 14 ≤ code_here text k → code_here text k ≤ 256 → Sort text k

end_code : (c : ℕ) → is_line_end c ≡ true → (10 ≤ c) × (c ≤ 12)
end_code c e = (grind (arith, nat_tests), grind (arith, nat_tests))

other_code : (c : ℕ) → is_line_end c ≡ false → (c ≤ 9) ⊎ (13 ≤ c)
other_code c e = grind (arith, nat_tests)

sort_of : (text : List ℕ) (k c : ℕ) → code_here text k ≡ c + 1 → c < 256 → get_or text k 0 ≡ c → Sort text k
sort_of text k c code byte there = by_test (is_line_end c) refl where
  same : ends text k ≡ is_line_end c
  same = ap is_line_end there

  by_test : (b : Bool) → is_line_end c ≡ b → Sort text k
  by_test true e = let l = end_code c e in ends_one (same ∙ e) (omega (arith, code, l.0)) (omega (arith, code, l.1))
  by_test false e = elim (other_code c e) [
    | inl h ↦ is_low (same ∙ e) (omega (arith, code)) (omega (arith, code, h))
    | inr h ↦ is_high (same ∙ e) (omega (arith, code, h)) (omega (arith, code, byte))
  ]

pub sort_at : (text : List ℕ) (k : ℕ) → k < length text → AreBytes text → Sort text k
sort_at text k h bytes = let c = code_inside text k h bytes in sort_of text k c.0 c.1 c.2 c.3

-- numbers that are not known, beside the codes of two characters
abbrev pub with_codes : List ℕ → ℕ → (ℕ → ℤ) → ℕ → ℤ
with_codes text k unknown i =
    if i == 4 then pos (code_here text k) else if i == 5 then pos (code_before text k) else unknown i
