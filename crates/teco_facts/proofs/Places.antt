-- Sums and differences of numbers are places.
use Rattle.teco_facts.proofs.Prelude.{◌≡◌, refl, ℤ, ◌+ℤ◌, ◌-ℤ◌, false, arith, ints, Value, IsNumber, IsPlace}
use Rattle.teco_verifier.specs.facts.Values.{plus, minus}

pub number_is_place : (a b lo hi : ℤ) → IsNumber a b lo hi → IsPlace a b lo hi
number_is_place a b lo hi n =
    let range = n.range in
    record {
      ahead_low = omega (arith, ints);
      ahead_high = omega (arith, ints);
      behind_low = omega (arith, ints);
      behind_high = omega (arith, ints);
      ordered = omega (arith, ints);
      low = omega (arith, ints);
      high = omega (arith, ints);
    }

pub sum_is_place : (a b lo hi c d low high : ℤ) → IsNumber a b lo hi → IsNumber c d low high
    → IsPlace (a +ℤ c) (b +ℤ d) (lo +ℤ low) (hi +ℤ high)
sum_is_place a b lo hi c d low high n m =
    let one = n.range in
    let two = m.range in
    record {
      ahead_low = omega (arith, ints);
      ahead_high = omega (arith, ints);
      behind_low = omega (arith, ints);
      behind_high = omega (arith, ints);
      ordered = omega (arith, ints);
      low = omega (arith, ints);
      high = omega (arith, ints);
    }

pub difference_is_place : (a b lo hi c d low high : ℤ) → IsNumber a b lo hi → IsNumber c d low high
    → IsPlace (a -ℤ c) (b -ℤ d) (lo -ℤ high) (hi -ℤ low)
difference_is_place a b lo hi c d low high n m =
    let one = n.range in
    let two = m.range in
    record {
      ahead_low = omega (arith, ints);
      ahead_high = omega (arith, ints);
      behind_low = omega (arith, ints);
      behind_high = omega (arith, ints);
      ordered = omega (arith, ints);
      low = omega (arith, ints);
      high = omega (arith, ints);
    }

-- sums and differences by their parts
pub added : (s t : Value) (a b lo hi : ℤ) → a ≡ s.ahead +ℤ t.ahead → b ≡ s.behind +ℤ t.behind → lo ≡ s.lo +ℤ t.lo
    → hi ≡ s.hi +ℤ t.hi → record { ahead = a; behind = b; lo = lo; hi = hi; saved = false } ≡ plus s t
added s t a b lo hi e f g h = rw (e, f, g, h) refl

pub subtracted : (s t : Value) (a b lo hi : ℤ) → a ≡ s.ahead -ℤ t.ahead → b ≡ s.behind -ℤ t.behind → lo ≡ s.lo -ℤ t.hi
    → hi ≡ s.hi -ℤ t.lo → record { ahead = a; behind = b; lo = lo; hi = hi; saved = false } ≡ minus s t
subtracted s t a b lo hi e f g h = rw (e, f, g, h) refl
