-- What is done with spans is true of the numbers in them.
use Rattle.teco_law_facts.proofs.Prelude.{◌≡◌, ℕ, zero, suc, ℤ, pos, negsuc, ◌+ℤ◌, ◌-ℤ◌, ◌*ℤ◌, neg_ℤ, ◌≤ℤ◌, ◌≤◌, ◌+◌}
use Rattle.teco_law_facts.proofs.Prelude.{◌-◌, arith, int_le, int_lt, Bool, true, false, ◌&&◌, ◌||◌, subst, FitsSigned}
use Rattle.teco_law_facts.proofs.Prelude.{w32, IfSome, refl, sym, cond, Some, None, ints, clamps, SFits-int_wrap}
use Rattle.teco_law_facts.proofs.Prelude.{int_min, int_max, in_32_bits, LIMIT, Value, Interval, Distances, IsIn}
use Rattle.teco_law_facts.proofs.Prelude.{IsWithin, value_in, any_number, plus, minus, least, interval_of}
use Rattle.teco_law_facts.proofs.Prelude.{kept_in_32_bits, interval_sum}
use Rattle.std.proofs.Common.{◌^◌}
use Rattle.std.proofs.Math.IntN.{*ℤ_comm, suc_ℤ-*ℤ, zero-*ℤ}
use Rattle.std.proofs.Math.Nat.{mul-le-mul_right}
use Rattle.std.proofs.lemmas.Int.{int_wrap_fits}
use Rattle.teco_base.specs.Arithmetic.{add, sub, mul}
use Rattle.teco_verifier.specs.facts.Values.{least_share}
use Rattle.teco_verifier.specs.facts.Values.{most_share, is_sign, is_linear}
use Rattle.teco_verifier.specs.facts.Values.{interval_difference, sum, difference, interval_product}
use Rattle.teco_verifier.specs.facts.Values.{product}

pub scaled_sum : (n : ℕ) (a c : ℤ) → pos n *ℤ (a +ℤ c) ≡ pos n *ℤ a +ℤ pos n *ℤ c
scaled_sum zero a c = rw (zero-*ℤ (a +ℤ c), zero-*ℤ a, zero-*ℤ c) refl
scaled_sum (suc n) a c =
    let e = scaled_sum n a c in
    omega (arith, ints, suc_ℤ-*ℤ (pos n) (a +ℤ c), suc_ℤ-*ℤ (pos n) a, suc_ℤ-*ℤ (pos n) c, e)

pub scaled_difference : (n : ℕ) (a c : ℤ) → pos n *ℤ (a -ℤ c) ≡ pos n *ℤ a -ℤ pos n *ℤ c
scaled_difference zero a c = rw (zero-*ℤ (a -ℤ c), zero-*ℤ a, zero-*ℤ c) refl
scaled_difference (suc n) a c =
    let e = scaled_difference n a c in
    omega (arith, ints, suc_ℤ-*ℤ (pos n) (a -ℤ c), suc_ℤ-*ℤ (pos n) a, suc_ℤ-*ℤ (pos n) c, e)

module _ (s t : Value) (fore back : ℕ) (v w : ℤ) (h : IsIn s fore back v) (i : IsIn t fore back w) where
  pub plus_in : IsIn (plus s t) fore back (v +ℤ w)
  plus_in =
      let a = scaled_sum fore s.ahead t.ahead in
      let b = scaled_sum back s.behind t.behind in
      record { low = omega (arith, ints, a, b, h, i); high = omega (arith, ints, a, b, h, i) }

  pub minus_in : IsIn (minus s t) fore back (v -ℤ w)
  minus_in =
      let a = scaled_difference fore s.ahead t.ahead in
      let b = scaled_difference back s.behind t.behind in
      record { low = omega (arith, ints, a, b, h, i); high = omega (arith, ints, a, b, h, i) }

pub value_in_in : (r : Interval) (fore back : ℕ) (v : ℤ) → IsWithin r v → IsIn (value_in r) fore back v
value_in_in r fore back v h = record { low = omega (arith, ints); high = omega (arith, ints) }

-- a distance counts at least as its least
scaled_more : (m n c : ℕ) → m ≤ n → (pos m *ℤ pos c) ≤ℤ (pos n *ℤ pos c)
scaled_more m n c h = omega (arith, ints, mul-le-mul_right c h)

scaled_less : (m n c : ℕ) → m ≤ n → (pos n *ℤ negsuc c) ≤ℤ (pos m *ℤ negsuc c)
scaled_less m n c h = omega (arith, ints, mul-le-mul_right (suc c) h)

-- the distances are at most the distances
pub record AreLeast (distances : Distances) (fore back : ℕ) : Type 0 where
  pub behind : distances.back ≤ back
  pub ahead : distances.fore ≤ fore

least_at : (x y : Bool) (c d lo v : ℤ) (distances : Distances) (fore back : ℕ) → int_lt c (pos 0) ≡ x
    → int_lt d (pos 0) ≡ y → AreLeast distances fore back → (pos fore *ℤ c +ℤ pos back *ℤ d +ℤ lo) ≤ℤ v
    → IfSome (cond (x || y) None (Some (pos distances.fore *ℤ c +ℤ pos distances.back *ℤ d +ℤ lo))) (λ m. m ≤ℤ v)
least_at true y c d lo v distances fore back p q b h = tt
least_at false true c d lo v distances fore back p q b h = tt
least_at false false (pos c) (pos d) lo v distances fore back p q b h =
    omega (arith, ints, scaled_more distances.fore fore c b.ahead, scaled_more distances.back back d b.behind, h)
least_at false false (negsuc c) d lo v distances fore back p q b h = absurd (omega (arith, ints))
least_at false false (pos c) (negsuc d) lo v distances fore back p q b h = absurd (omega (arith, ints))

pub least_in : (s : Value) (distances : Distances) (fore back : ℕ) (v : ℤ) → AreLeast distances fore back
    → IsIn s fore back v → IfSome (least s distances) (λ m. m ≤ℤ v)
least_in s distances fore back v b h = least_at _ _ s.ahead s.behind s.lo v distances fore back refl refl b h.low

share_least : (c : ℤ) (m n : ℕ) → m ≤ n → n ≤ LIMIT → (least_share m c ≤ℤ (pos n *ℤ c))
    × ((pos n *ℤ c) ≤ℤ most_share m c)
share_least (pos c) m n h l = (scaled_more m n c h, scaled_more n LIMIT c l)
share_least (negsuc c) m n h l = (scaled_less n LIMIT c l, scaled_less m n c h)

pub interval_of_in : (s : Value) (distances : Distances) (fore back : ℕ) (v : ℤ) → AreLeast distances fore back
    → fore ≤ LIMIT → back ≤ LIMIT → IsIn s fore back v → IsWithin (interval_of distances s) v
interval_of_in s distances fore back v b lf lb h =
    let f = share_least s.ahead distances.fore fore b.ahead lf in
    let g = share_least s.behind distances.back back b.behind lb in
    record { low = omega (arith, ints, f, g, h); high = omega (arith, ints, f, g, h) }

fits_between : (v : ℤ) → negsuc (2 ^ 31 - 1) ≤ℤ v → v ≤ℤ pos (2 ^ 31 - 1) → FitsSigned w32 v
fits_between v l h = omega (arith, ints)

pub wrapped_number_within : (v : ℤ) → IsWithin any_number (in_32_bits v)
wrapped_number_within v = let f = SFits-int_wrap w32 v in
    record { low = omega (arith, ints, f); high = omega (arith, ints, f) }

pub kept_in_32_bits_in : (r : Interval) (v : ℤ) → IsWithin r v → IsWithin (kept_in_32_bits r) (in_32_bits v)
kept_in_32_bits_in r v h = in_range r v (int_le (negsuc (2 ^ 31 - 1)) r.lo) (int_le r.hi (pos (2 ^ 31 - 1))) refl refl h
  where
    in_range : (r : Interval) (v : ℤ) (x y : Bool) → int_le (negsuc (2 ^ 31 - 1)) r.lo ≡ x
        → int_le r.hi (pos (2 ^ 31 - 1)) ≡ y → IsWithin r v → IsWithin (cond (x && y) r any_number) (in_32_bits v)
    in_range r v true true p q h = subst (IsWithin r)
        (sym (int_wrap_fits w32 v (fits_between v (omega (arith, ints)) (omega (arith, ints))))) h
    in_range r v true false p q h = wrapped_number_within v
    in_range r v false true p q h = wrapped_number_within v
    in_range r v false false p q h = wrapped_number_within v

-- a product with a sign is no greater than the number
sign_share : (n : ℕ) (c : ℤ) → is_sign c ≡ true → ((pos n *ℤ c) ≤ℤ pos n) × (neg_ℤ (pos n) ≤ℤ (pos n *ℤ c))
sign_share n (pos (suc (suc c))) h = absurd (grind (arith, ints))
sign_share n (negsuc (suc c)) h = absurd (grind (arith, ints))
sign_share n c h = (omega (arith, ints), omega (arith, ints))

pub both_true : (x y : Bool) → (x && y) ≡ true → (x ≡ true) × (y ≡ true)
both_true true true h = (refl, refl)
both_true x y h = absurd (grind arith)

-- a linear value is a 32-bit number
linear_fits : (s : Value) (fore back : ℕ) (v : ℤ) → is_linear s ≡ true → fore + back ≤ LIMIT → IsIn s fore back v
    → FitsSigned w32 v
linear_fits s fore back v l limit h =
    let p = both_true _ _ l in
    let q = both_true _ _ p.0 in
    let r = both_true _ _ q.0 in
    let u = both_true _ _ r.0 in
    let a = sign_share fore s.ahead u.0 in
    let c = sign_share back s.ahead u.0 in
    let d = sign_share back (s.behind -ℤ s.ahead) u.1 in
    let e = scaled_difference back s.behind s.ahead in
    omega (arith, ints, a, c, d, e, p.1, q.1, r.1, h)

-- what is linear or of an interval is true of the number in 32 bits
linear_or_in : (x : Bool) (exact : Value) (ranged : Interval) (fore back : ℕ) (v : ℤ) → is_linear exact ≡ x
    → fore + back ≤ LIMIT → IsIn exact fore back v → IsWithin ranged v
    → IsIn (cond x exact (value_in (kept_in_32_bits ranged))) fore back (in_32_bits v)
linear_or_in true exact ranged fore back v l limit h i =
    subst (IsIn exact fore back) (sym (int_wrap_fits w32 v (linear_fits exact fore back v l limit h))) h
linear_or_in false exact ranged fore back v l limit h i =
    value_in_in (kept_in_32_bits ranged) fore back (in_32_bits v) (kept_in_32_bits_in ranged v i)

-- what sums, differences and products need to be known of the distances
pub record AreDistances (distances : Distances) (fore back : ℕ) : Type 0 where
  pub least : AreLeast distances fore back
  pub within : fore + back ≤ LIMIT

module _ (distances : Distances) (s t : Value) (fore back : ℕ) (v w : ℤ) (b : AreDistances distances fore back)
    (h : IsIn s fore back v) (i : IsIn t fore back w) where
  ranged : IsWithin (interval_of distances s) v × IsWithin (interval_of distances t) w
  ranged = (
    interval_of_in s distances fore back v b.least (omega arith) (omega arith) h,
    interval_of_in t distances fore back w b.least (omega arith) (omega arith) i,
  )

  pub sum_in : IsIn (sum distances s t) fore back (add v w)
  sum_in = let r = ranged in linear_or_in _ _ (interval_sum (interval_of distances s) (interval_of distances t)) fore
      back (v +ℤ w) refl b.within (plus_in s t fore back v w h i)
      (record { low = omega (arith, ints, r); high = omega (arith, ints, r) })

  pub difference_in : IsIn (difference distances s t) fore back (sub v w)
  difference_in = let r = ranged in
      linear_or_in _ _ (interval_difference (interval_of distances s) (interval_of distances t)) fore back
      (v -ℤ w) refl b.within (minus_in s t fore back v w h i)
      (record { low = omega (arith, ints, r); high = omega (arith, ints, r) })

-- ---- products
pub scaled_le : (n : ℕ) (a b : ℤ) → a ≤ℤ b → (pos n *ℤ a) ≤ℤ (pos n *ℤ b)
scaled_le zero a b h = rw (zero-*ℤ a, zero-*ℤ b) (omega (arith, ints))
scaled_le (suc n) a b h = omega (arith, ints, suc_ℤ-*ℤ (pos n) a, suc_ℤ-*ℤ (pos n) b, scaled_le n a b h)

negative_scaled : (n : ℕ) (a : ℤ) → negsuc n *ℤ a ≡ neg_ℤ (pos (suc n) *ℤ a)
negative_scaled n a = omega (arith, ints)

-- a multiple of something between is between the multiples
between : (x a y b : ℤ) → a ≤ℤ y → y ≤ℤ b → (int_min (x *ℤ a) (x *ℤ b) ≤ℤ (x *ℤ y))
    × ((x *ℤ y) ≤ℤ int_max (x *ℤ a) (x *ℤ b))
between (pos n) a y b h i =
    let p = scaled_le n a y h in
    let q = scaled_le n y b i in
    (omega (arith, ints, clamps, p, q), omega (arith, ints, clamps, p, q))
between (negsuc n) a y b h i =
    let p = scaled_le (suc n) a y h in
    let q = scaled_le (suc n) y b i in (
      omega (arith, ints, clamps, p, q, negative_scaled n a, negative_scaled n y, negative_scaled n b),
      omega (arith, ints, clamps, p, q, negative_scaled n a, negative_scaled n y, negative_scaled n b),
    )

product_within : (r s : Interval) (x y : ℤ) → IsWithin r x → IsWithin s y → IsWithin (interval_product r s) (x *ℤ y)
product_within r s x y h i =
    let p = between x s.lo y s.hi i.low i.high in
    let q = between s.lo r.lo x r.hi h.low h.high in
    let t = between s.hi r.lo x r.hi h.low h.high in
    record {
      low = omega (
        arith,
        ints,
        clamps,
        p,
        q,
        t,
        *ℤ_comm s.lo r.lo,
        *ℤ_comm s.lo x,
        *ℤ_comm s.lo r.hi,
        *ℤ_comm s.hi r.lo,
        *ℤ_comm s.hi x,
        *ℤ_comm s.hi r.hi,
      );
      high = omega (
        arith,
        ints,
        clamps,
        p,
        q,
        t,
        *ℤ_comm s.lo r.lo,
        *ℤ_comm s.lo x,
        *ℤ_comm s.lo r.hi,
        *ℤ_comm s.hi r.lo,
        *ℤ_comm s.hi x,
        *ℤ_comm s.hi r.hi,
      );
    }

pub product_in : (distances : Distances) (s t : Value) (fore back : ℕ) (v w : ℤ) → AreDistances distances fore back
    → IsIn s fore back v → IsIn t fore back w → IsIn (product distances s t) fore back (mul v w)
product_in distances s t fore back v w b h i =
    let r = ranged distances s t fore back v w b h i in
    value_in_in _ fore back (mul v w)
    (kept_in_32_bits_in _ (v *ℤ w) (product_within (interval_of distances s) (interval_of distances t) v w r.0 r.1))

pub any_within : (v : ℤ) → FitsSigned w32 v → IsWithin any_number v
any_within v f = record { low = omega (arith, ints, f); high = omega (arith, ints, f) }
