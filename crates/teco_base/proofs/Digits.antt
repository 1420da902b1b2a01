-- The digits of a number, written from the end of a buffer of 11 bytes.
use Rattle.std.proofs.Common.{◌≡◌, ℕ, zero, suc, ◌+◌, ◌-◌, ◌*◌, ◌/◌, ◌%◌, ◌^◌, ◌<◌, ◌≤◌, true, false, if◌then◌else◌}
use Rattle.std.proofs.Common.{ℤ, pos, negsuc, ◌≤ℤ◌, ◌<ℤ◌, unsigned_abs, FitsSigned, List, [], ◌∷◌, length, drop, set}
use Rattle.std.proofs.Common.{ap, sym, refl, ◌∙◌, arith, mul-le-mul_left, mod-lt}
use Rattle.std.proofs.lemmas.Bool.{eq-eqb, ne_eqb}
use Rattle.std.proofs.lemmas.Bool.Decides.{nat_tests}
use Rattle.std.proofs.lemmas.Grind.{drop-set_at}
use Rattle.std.proofs.lemmas.Fmt.{length-decimal-le}
use Rattle.std.proofs.lemmas.Int.{ints, to_z-of_z}
use Rattle.std.specs.Int.{w32, cast_signed, cast_unsigned}
use Rattle.std.proofs.Math.Nat.{div-lt_iff_lt-mul, pow-suc}
use Rattle.std.specs.Prelude.{◌==◌}
use Rattle.std.specs.Fmt.{digit_glyph, digits_onto, digits, decimal, signed_decimal}

-- the digits of n before others, which stand from a place on. `digits` takes up to 64, so 53 of them have no place in
-- the buffer
unfoldable pub digits_before : ℕ → ℕ → ℕ → List ℕ → List ℕ
digits_before place base n others = digits_onto (place + 53) base true n others

-- at the buffer's end no digit is written
pub nothing_written : (base n : ℕ) → digits_before 11 base n [] ≡ digits base true n
unfolding digits_before digits
nothing_written base n = refl

module _ (base n : ℕ) (others : List ℕ) where
  onto_last : (k : ℕ) → 0 < k → n / base ≡ 0 → digits_onto k base true n others ≡ digit_glyph true (n % base) ∷ others
  onto_last zero some e = absurd (omega arith)
  onto_last (suc k) some e = rw (eq-eqb (n / base) 0 e) refl

  onto_more : (k j : ℕ) → k ≡ suc j → (n / base ≡ 0 → ⊥)
      → digits_onto k base true n others ≡ digits_onto j base true (n / base) (digit_glyph true (n % base) ∷ others)
  onto_more zero j same e = absurd (omega arith)
  onto_more (suc k) j same e = rw (ne_eqb (n / base) 0 e)
      (ap (λ m. digits_onto m base true (n / base) (digit_glyph true (n % base) ∷ others)) (omega arith))

module _ (buffer : List ℕ) (place base n d : ℕ) (some : 0 < place) (room : place ≤ length buffer)
    (is : d ≡ digit_glyph true (n % base)) where
  written : drop (place - 1) (set buffer (place - 1) d) ≡ digit_glyph true (n % base) ∷ drop place buffer
  written = drop-set_at buffer (place - 1) (place - 1) d refl (omega arith) ∙ ap (λ m. d ∷ drop m buffer) (omega arith)
      ∙ ap (λ g. g ∷ drop place buffer) is

  -- the digit that is written last is the highest
  pub last_written : n / base ≡ 0 → drop (place - 1) (set buffer (place - 1) d) ≡ digits_before place base n
      (drop place buffer)
  unfolding digits_before
  last_written e = written ∙ sym (onto_last base n (drop place buffer) (place + 53) (omega arith) e)

  -- another digit is written before those that stand
  pub more_written : (n / base ≡ 0 → ⊥)
      → digits_before (place - 1) base (n / base) (drop (place - 1) (set buffer (place - 1) d)) ≡ digits_before place
      base n (drop place buffer)
  unfolding digits_before
  more_written e = rw written (sym (onto_more base n (drop place buffer) (place + 53) (place - 1 + 53) (omega arith) e))

-- the quotient has a digit less
pub quotient_fits : (n base k : ℕ) → 8 ≤ base → 0 < k → n < 8 ^ k → n / base < 8 ^ (k - 1)
quotient_fits n base zero big some fits = absurd (omega arith)
quotient_fits n base (suc k) big some fits =
    let less : n < 8 ^ k * base = omega (arith, pow-suc 8 k, mul-le-mul_left (8 ^ k) big) in
    let e : suc k - 1 ≡ k = omega arith in
    rw e ((div-lt_iff_lt-mul {k = base} {x = n} {y = 8 ^ k} (omega arith)).1 less)

-- a number that is not zero has a digit
pub some_place : (n k : ℕ) → n < 8 ^ k → (n ≡ 0 → ⊥) → 0 < k
some_place n zero fits some = absurd (omega arith)
some_place n (suc k) fits some = omega arith

glyph_plain : (d : ℕ) → d < 10 → digit_glyph true d ≡ digit_glyph false d
glyph_plain d small = grind (arith, nat_tests)

onto_plain : (k base n : ℕ) (others : List ℕ) → 0 < base → base ≤ 10
    → digits_onto k base true n others ≡ digits_onto k base false n others
onto_plain zero base n others some small = refl
onto_plain (suc k) base n others some small =
    ap (λ g. if n / base == 0 then g ∷ others else digits_onto k base true (n / base) (g ∷ others))
    (glyph_plain (n % base) (omega (arith, mod-lt n some)))
    ∙ ap (λ rest. if n / base == 0 then digit_glyph false (n % base) ∷ others else rest)
    (onto_plain k base (n / base) (digit_glyph false (n % base) ∷ others) some small)

-- digits of a base of at most 10 have no case
pub digits_plain : (base n : ℕ) → 0 < base → base ≤ 10 → digits base true n ≡ digits base false n
unfolding digits
digits_plain base n = onto_plain 64 base n []

-- how the digits come to stand in the buffer
pub ruleset digits_from_end = (nothing_written, last_written, more_written, quotient_fits, some_place, digits_plain)

-- a number below zero is its absolute value after a minus sign, and any other is its absolute value
signed_below : (n : ℤ) → n <ℤ pos 0 → 45 ∷ decimal (unsigned_abs n) ≡ signed_decimal n
signed_below (pos n) below = absurd (omega (arith, ints))
signed_below (negsuc n) below = refl

signed_above : (n : ℤ) → pos 0 ≤ℤ n → decimal (unsigned_abs n) ≡ signed_decimal n
signed_above (pos n) above = refl
signed_above (negsuc n) above = absurd (omega (arith, ints))

-- the same of a number as the code has it, and of its digits
pub below_zero : (n : ℤ) (m : ℕ) (ds : List ℕ) → FitsSigned w32 n → n <ℤ pos 0
    → m ≡ unsigned_abs (cast_signed w32 (cast_unsigned w32 n)) → ds ≡ decimal m → 45 ∷ ds ≡ signed_decimal n
below_zero n m ds fits below is e = ap (λ xs. 45 ∷ xs) (e ∙ ap decimal (is ∙ ap unsigned_abs (to_z-of_z w32 n fits)))
    ∙ signed_below n below

pub from_zero : (n : ℤ) (m : ℕ) (ds : List ℕ) → FitsSigned w32 n → pos 0 ≤ℤ n
    → m ≡ unsigned_abs (cast_signed w32 (cast_unsigned w32 n)) → ds ≡ decimal m → ds ≡ signed_decimal n
from_zero n m ds fits above is e = e ∙ ap decimal (is ∙ ap unsigned_abs (to_z-of_z w32 n fits)) ∙ signed_above n above

-- the digits leave room for a minus sign
pub few_digits : (m : ℕ) (ds : List ℕ) → m ≤ 2 ^ 31 → ds ≡ decimal m → length ds < 11
few_digits m ds near e = rw e (let few : length (decimal m) ≤ 10 = length-decimal-le 10 m (omega arith) (omega arith)
    (omega arith) in omega (arith, few))

-- how a sign comes before them
pub ruleset signed_digits = (below_zero, from_zero, few_digits)
