-- Quotients lie between the corners.
use Rattle.teco_law_facts.proofs.Prelude.{◌≡◌, ℕ, zero, suc, ◌≤◌, arith, refl, ℤ, pos, negsuc, ◌≤ℤ◌, inl, inr, w32}
use Rattle.teco_law_facts.proofs.Prelude.{FitsSigned, Ok, Err, Bool, true, false, ◌||◌, ◌&&◌, int_lt, cond, ints}
use Rattle.teco_law_facts.proofs.Prelude.{clamps, SFits-int_wrap, int_min, int_max, in_32_bits, and, or, Value}
use Rattle.teco_law_facts.proofs.Prelude.{Interval, Distances, IsValue, IsWithin, single, any_number, value_in}
use Rattle.teco_law_facts.proofs.Prelude.{interval_of}
use Rattle.std.proofs.Common.{◌/◌, ◌⊎◌}
use Rattle.std.proofs.Common.{int_div}
use Rattle.std.proofs.Math.Nat.{div-mul-le_self, mul-le-mul_left}
use Rattle.std.proofs.lemmas.Nat.{le-div}
use Rattle.std.specs.Option.{ok_or}
use Rattle.teco_base.specs.Arithmetic.{div}
use Rattle.teco_base.specs.declared.code.Code.TheVariants as code
use Rattle.teco_verifier.specs.declared.refusal.RefusalReason.TheVariants as refusal
use Rattle.teco_law_facts.proofs.Steps.{Covers}
use Rattle.teco_verifier.specs.facts.Values.{interval_quotient, quotient, bitwise, is_single}
use Rattle.teco_verifier.specs.facts.Arguments.{quotient_of}
use Rattle.teco_law_facts.proofs.Numbers.{AreDistances, interval_of_in, value_in_in, kept_in_32_bits_in}

nat_up : (a b k : ℕ) → a ≤ b → a / suc k ≤ b / suc k
nat_up a b k h = le-div (a / suc k) b (suc k) (omega arith) (omega (arith, div-mul-le_self a (suc k)))

nat_down : (n k l : ℕ) → k ≤ l → n / suc l ≤ n / suc k
nat_down n k l h = le-div (n / suc l) n (suc k) (omega arith)
    (omega (arith, div-mul-le_self n (suc l), mul-le-mul_left (n / suc l) h))

-- a greater dividend
up_by : (d : ℕ) (a x : ℤ) → a ≤ℤ x → int_div a (pos (suc d)) ≤ℤ int_div x (pos (suc d))
up_by d (pos a) (pos x) h = omega (arith, ints, nat_up a x d (omega (arith, ints)))
up_by d (negsuc a) (pos x) h = omega (arith, ints)
up_by d (negsuc a) (negsuc x) h = omega (arith, ints, nat_up (suc x) (suc a) d (omega (arith, ints)))
up_by d (pos a) (negsuc x) h = absurd (omega (arith, ints))

down_by : (d : ℕ) (a x : ℤ) → a ≤ℤ x → int_div x (negsuc d) ≤ℤ int_div a (negsuc d)
down_by d (pos a) (pos x) h = omega (arith, ints, nat_up a x d (omega (arith, ints)))
down_by d (negsuc a) (pos x) h = omega (arith, ints)
down_by d (negsuc a) (negsuc x) h = omega (arith, ints, nat_up (suc x) (suc a) d (omega (arith, ints)))
down_by d (pos a) (negsuc x) h = absurd (omega (arith, ints))

dividend_between : (y a x b : ℤ) → (y ≡ pos 0 → ⊥) → a ≤ℤ x → x ≤ℤ b
    → (int_min (int_div a y) (int_div b y) ≤ℤ int_div x y) × (int_div x y ≤ℤ int_max (int_div a y) (int_div b y))
dividend_between (pos zero) a x b n h i = absurd (n refl)
dividend_between (pos (suc d)) a x b n h i = let p = up_by d a x h in let q = up_by d x b i in
    (omega (arith, ints, clamps, p, q), omega (arith, ints, clamps, p, q))
dividend_between (negsuc d) a x b n h i = let p = down_by d a x h in let q = down_by d x b i in
    (omega (arith, ints, clamps, p, q), omega (arith, ints, clamps, p, q))

-- a greater divisor of the same sign
divisor_on : (x : ℤ) (c y d : ℕ) → c ≤ y → y ≤ d
    → (int_min (int_div x (pos (suc c))) (int_div x (pos (suc d))) ≤ℤ int_div x (pos (suc y)))
    × (int_div x (pos (suc y)) ≤ℤ int_max (int_div x (pos (suc c))) (int_div x (pos (suc d))))
divisor_on (pos n) c y d h i = let p = nat_down n c y h in let q = nat_down n y d i in
    (omega (arith, ints, clamps, p, q), omega (arith, ints, clamps, p, q))
divisor_on (negsuc n) c y d h i = let p = nat_down (suc n) c y h in let q = nat_down (suc n) y d i in
    (omega (arith, ints, clamps, p, q), omega (arith, ints, clamps, p, q))

divisor_back : (x : ℤ) (c y d : ℕ) → c ≤ y → y ≤ d
    → (int_min (int_div x (negsuc d)) (int_div x (negsuc c)) ≤ℤ int_div x (negsuc y))
    × (int_div x (negsuc y) ≤ℤ int_max (int_div x (negsuc d)) (int_div x (negsuc c)))
divisor_back (pos n) c y d h i = let p = nat_down n c y h in let q = nat_down n y d i in
    (omega (arith, ints, clamps, p, q), omega (arith, ints, clamps, p, q))
divisor_back (negsuc n) c y d h i = let p = nat_down (suc n) c y h in let q = nat_down (suc n) y d i in
    (omega (arith, ints, clamps, p, q), omega (arith, ints, clamps, p, q))

divisor_between : (x c y d : ℤ) → (pos 1 ≤ℤ c) ⊎ (d ≤ℤ negsuc 0) → c ≤ℤ y → y ≤ℤ d
    → (int_min (int_div x c) (int_div x d) ≤ℤ int_div x y) × (int_div x y ≤ℤ int_max (int_div x c) (int_div x d))
divisor_between x (pos (suc c)) (pos (suc y)) (pos (suc d)) s h i =
    divisor_on x c y d (omega (arith, ints)) (omega (arith, ints))
divisor_between x (negsuc c) (negsuc y) (negsuc d) s h i =
    divisor_back x d y c (omega (arith, ints)) (omega (arith, ints))
divisor_between x c y d s h i = absurd (grind arith)

pub quotient_within : (r s : Interval) (x y : ℤ) → (pos 1 ≤ℤ s.lo) ⊎ (s.hi ≤ℤ negsuc 0) → IsWithin r x → IsWithin s y
    → IsWithin (interval_quotient r s) (int_div x y)
quotient_within r s x y apart h i =
    let p = dividend_between y r.lo x r.hi (λ e. not_zero apart (omega (arith, ints)) (omega (arith, ints))) h.low
    h.high in
    let q = divisor_between r.lo s.lo y s.hi apart i.low i.high in
    let t = divisor_between r.hi s.lo y s.hi apart i.low i.high in
    record { low = omega (arith, ints, clamps, p, q, t); high = omega (arith, ints, clamps, p, q, t) } where
      not_zero : (pos 1 ≤ℤ s.lo) ⊎ (s.hi ≤ℤ negsuc 0) → s.lo ≤ℤ pos 0 → pos 0 ≤ℤ s.hi → ⊥
      not_zero (inl a) l u = omega (arith, ints)
      not_zero (inr a) l u = omega (arith, ints)

pub any_number_is : (fore back : ℕ) (v : ℤ) → FitsSigned w32 v → IsValue fore back (value_in any_number) v
any_number_is fore back v f = record {
  is = record { low = omega (arith, ints, f); high = omega (arith, ints, f) };
  fits = f;
  saved = tt;
}

pub and_fits : (x y : ℤ) → FitsSigned w32 (and x y)
and_fits x y = omega (arith, ints)

pub or_fits : (x y : ℤ) → FitsSigned w32 (or x y)
or_fits x y = omega (arith, ints)

-- / & #
module _ (distances : Distances) (fore back : ℕ) (b : AreDistances distances fore back) (s t : Value) (v w : ℤ)
    (h : IsValue fore back s v) (i : IsValue fore back t w) where
  of_dividend : IsWithin (interval_of distances s) v
  of_dividend = interval_of_in s distances fore back v b.least (omega (arith, b.within)) (omega (arith, b.within)) h.is

  of_divisor : IsWithin (interval_of distances t) w
  of_divisor = interval_of_in t distances fore back w b.least (omega (arith, b.within)) (omega (arith, b.within)) i.is

  quotient_in : (pos 1 ≤ℤ (interval_of distances t).lo) ⊎ ((interval_of distances t).hi ≤ℤ negsuc 0)
      → IsValue fore back (quotient distances s t) (in_32_bits (int_div v w))
  quotient_in apart =
      record {
        is = value_in_in _ fore back _
            (kept_in_32_bits_in _ (int_div v w)
            (quotient_within (interval_of distances s) (interval_of distances t) v w apart of_dividend of_divisor));
        fits = SFits-int_wrap w32 _;
        saved = tt;
      }

  is_divided : (w : ℤ) → (w ≡ pos 0 → ⊥) → IsValue fore back (quotient distances s t) (in_32_bits (int_div v w))
      → Covers (IsValue fore back) (Ok (quotient distances s t)) (ok_or (div v w) code.Div)
  is_divided (pos zero) n q = absurd (n refl)
  is_divided (pos (suc d)) n q = q
  is_divided (negsuc d) n q = q

  divided_if : (x y : Bool) → int_lt (pos 0) (interval_of distances t).lo ≡ x
      → int_lt (interval_of distances t).hi (pos 0) ≡ y
      → Covers (IsValue fore back) (cond (x || y) (Ok (quotient distances s t)) (Err refusal.Divisor))
      (ok_or (div v w) code.Div)
  divided_if true y e f = let d = of_divisor in
      is_divided w (λ z. above (omega (arith, ints)) d.low z) (quotient_in (inl (omega (arith, ints)))) where
        above : pos 1 ≤ℤ (interval_of distances t).lo → (interval_of distances t).lo ≤ℤ w → w ≡ pos 0 → ⊥
        above a l z = omega (arith, ints)
  divided_if false true e f = let d = of_divisor in
      is_divided w (λ z. below (omega (arith, ints)) d.high z) (quotient_in (inr (omega (arith, ints)))) where
        below : (interval_of distances t).hi ≤ℤ negsuc 0 → w ≤ℤ (interval_of distances t).hi → w ≡ pos 0 → ⊥
        below a l z = omega (arith, ints)
  divided_if false false e f = tt

  pub divided_covers : Covers (IsValue fore back) (quotient_of distances s t) (ok_or (div v w) code.Div)
  divided_covers = divided_if _ _ refl refl

  bitwise_if : (op : ℤ → ℤ → ℤ) → ((x y : ℤ) → FitsSigned w32 (op x y)) → (x y : Bool)
      → is_single (interval_of distances s) ≡ x → is_single (interval_of distances t) ≡ y
      → IsValue fore back (cond (x && y) (single (op (interval_of distances s).lo (interval_of distances t).lo))
      (value_in any_number)) (op v w)
  bitwise_if op f true true p q =
      let d = of_dividend in
      let e = of_divisor in
      let l : (interval_of distances s).lo ≡ v = omega (arith, ints) in
      let r : (interval_of distances t).lo ≡ w = omega (arith, ints) in
      rw (l, r) (record {
        is = record { low = omega (arith, ints); high = omega (arith, ints) };
        fits = f v w;
        saved = tt;
      })
  bitwise_if op f true false p q = any_number_is fore back (op v w) (f v w)
  bitwise_if op f false y p q = any_number_is fore back (op v w) (f v w)

  pub bitwise_in : (op : ℤ → ℤ → ℤ) → ((x y : ℤ) → FitsSigned w32 (op x y))
      → IsValue fore back (bitwise op (interval_of distances s) (interval_of distances t)) (op v w)
  bitwise_in op f = bitwise_if op f _ _ refl refl
