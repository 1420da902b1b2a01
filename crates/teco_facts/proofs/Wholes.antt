-- A number of 64 bits is the number that it is read as.
use Rattle.teco_facts.proofs.Prelude.{◌≡◌, refl, ◌∙◌, ℤ, ◌+ℤ◌, ◌-ℤ◌, ◌≤ℤ◌, FitsSigned, w64, to_z, of_z, arith, ints}
use Rattle.teco_facts.proofs.Prelude.{to_z-of_z, IsRange, IsPlace}

pub ruleset wholes = (to_z-of_z)

-- the ends of a range
pub low_whole : {lo hi : ℤ} → IsRange lo hi → to_z w64 (of_z w64 lo) ≡ lo
low_whole {lo} {hi} range = to_z-of_z w64 lo (omega (arith, ints))

pub high_whole : {lo hi : ℤ} → IsRange lo hi → to_z w64 (of_z w64 hi) ≡ hi
high_whole {lo} {hi} range = to_z-of_z w64 hi (omega (arith, ints))

-- what a place has
pub record AreWhole (a b low high : ℤ) : Type 0 where
  pub ahead : to_z w64 (of_z w64 a) ≡ a
  pub behind : to_z w64 (of_z w64 b) ≡ b
  pub lo : to_z w64 (of_z w64 low) ≡ low
  pub hi : to_z w64 (of_z w64 high) ≡ high

pub place_whole : (a b lo hi : ℤ) → IsPlace a b lo hi → AreWhole a b lo hi
place_whole a b lo hi place = record {
  ahead = to_z-of_z w64 a (omega (arith, ints));
  behind = to_z-of_z w64 b (omega (arith, ints));
  lo = to_z-of_z w64 lo (omega (arith, ints));
  hi = to_z-of_z w64 hi (omega (arith, ints));
}

-- sums and differences that are returned
pub sum_whole : {x y z : ℤ} → to_z w64 (of_z w64 x) ≡ x → to_z w64 (of_z w64 y) ≡ y → FitsSigned w64 z
    → z ≡ to_z w64 (of_z w64 x) +ℤ to_z w64 (of_z w64 y) → to_z w64 (of_z w64 z) ≡ x +ℤ y
sum_whole {z = z} e f fits is = to_z-of_z w64 z fits ∙ (is ∙ rw (e, f) refl)

pub difference_whole : {x y z : ℤ} → to_z w64 (of_z w64 x) ≡ x → to_z w64 (of_z w64 y) ≡ y → FitsSigned w64 z
    → z ≡ to_z w64 (of_z w64 x) -ℤ to_z w64 (of_z w64 y) → to_z w64 (of_z w64 z) ≡ x -ℤ y
difference_whole {z = z} e f fits is = to_z-of_z w64 z fits ∙ (is ∙ rw (e, f) refl)

pub differences_in_order : {lo hi low high : ℤ} → IsRange lo hi → IsRange low high → (lo -ℤ high) ≤ℤ (hi -ℤ low)
differences_in_order i j = omega (arith, ints)
