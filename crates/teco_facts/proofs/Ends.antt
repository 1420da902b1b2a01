-- The ends of a number's range have 32 bits.
use Rattle.teco_facts.proofs.Prelude.{◌≡◌, refl, ℤ, ◌+ℤ◌, ◌≤ℤ◌, arith, ints, least_share, most_share, interval_of}
use Rattle.teco_facts.proofs.Prelude.{Distances, Value, IsNumber, IsRange}
use Rattle.teco_facts.specs.Numbers.{IsShare}

module _ (x y u v a b lo hi : ℤ) (number : IsNumber a b lo hi) (f : IsShare x a) (g : IsShare y b) (h : IsShare u a)
    (i : IsShare v b) where
  pub is_range : (k l : ℤ) → k ≡ x +ℤ y +ℤ lo → l ≡ u +ℤ v +ℤ hi → x ≤ℤ u → y ≤ℤ v → IsRange k l
  is_range k l d e p q = record {
    ordered = omega (arith, ints);
    low = omega (arith, ints);
    high = omega (arith, ints);
  }

-- a range by what its ends are sums of
pub of_parts : (d : Distances) (n : Value) (x y u v lo hi : ℤ) → x ≡ least_share d.fore n.ahead
    → y ≡ least_share d.back n.behind → u ≡ most_share d.fore n.ahead → v ≡ most_share d.back n.behind
    → lo ≡ x +ℤ y +ℤ n.lo → hi ≡ u +ℤ v +ℤ n.hi → record { lo = lo; hi = hi } ≡ interval_of d n
of_parts d n x y u v lo hi e f g h j k = rw (j, k, e, f, g, h) refl
