-- What arrays of nine coefficients come to be, place by place.
use Rattle.teco_poly.proofs.Prelude.{◌≡◌, ℕ, ◌+◌, ◌-◌, ◌*◌, ◌^◌, ◌<◌, ◌≤◌, max, List, length, get_or, Some, None, Bool}
use Rattle.teco_poly.proofs.Prelude.{true, false, sym, ap, ◌∙◌, refl, arith, ltb, get_or_past, ext_get_or, ltb-true}
use Rattle.teco_poly.proofs.Prelude.{ltb-false, Polynomial, sum, scaled, greater, differences, is_at_most, sub, fitted}
use Rattle.std.proofs.Common.{mul_comm}
use Rattle.teco_poly.proofs.Fitting.{Fits, get_or-sum, get_or-scaled, get_or-greater, get_or-differences}
use Rattle.teco_poly.proofs.Fitting.{length-differences, at_most_means, at_most_by, fits_nine, fitted_is, fitted_none}

-- nine places have been filled, each with the coefficient of a polynomial that has no others
pub filled : (p r : Polynomial) → length r ≡ 9
    → ((k : ℕ) → k < 9 → (get_or r k 0 ≡ get_or p k 0) × (get_or r k 0 < 2 ^ 64)) → ((k : ℕ) → 9 ≤ k → get_or p k 0 ≡ 0)
    → Some r ≡ fitted p
filled p r nine each low =
    fitted_is p r nine (λ k h. (each k h).0) (fits_nine p (λ k h. let at = each k h in omega (arith, at.0, at.1)) low)

-- what is known of nine places that are filled, each with a number
pub record IsFilled (value : ℕ → ℕ) (r : List ℕ) (count : ℕ) : Type 0 where
  pub nine : length r ≡ 9
  pub each : (k : ℕ) → k < count → get_or r k 0 ≡ value k
  pub small : (k : ℕ) → k < count → get_or r k 0 < 2 ^ 64

pub all_filled : (value : ℕ → ℕ) (r : List ℕ) (count : ℕ) → IsFilled value r count → 9 ≤ count → IsFilled value r 9
all_filled value r count f all =
    record { nine = f.nine; each = λ k h. f.each k (omega arith); small = λ k h. f.small k (omega arith) }

module _ (p q r : Polynomial) (nine_p : length p ≡ 9) (nine_q : length q ≡ 9) where
  past_p : (k : ℕ) → 9 ≤ k → get_or p k 0 ≡ 0
  past_p k h = get_or_past p k 0 (omega arith)

  past_q : (k : ℕ) → 9 ≤ k → get_or q k 0 ≡ 0
  past_q k h = get_or_past q k 0 (omega arith)

  pub sums_filled : IsFilled (λ k. get_or p k 0 + get_or q k 0) r 9 → Some r ≡ fitted (sum p q)
  sums_filled f =
      filled (sum p q) r f.nine (λ k h. (f.each k h ∙ sym (get_or-sum p q k), f.small k h))
      (λ k h. omega (arith, get_or-sum p q k, past_p k h, past_q k h))

  pub greater_filled : IsFilled (λ k. max (get_or p k 0) (get_or q k 0)) r 9 → fitted (greater p q) ≡ Some r
  greater_filled f =
      sym (filled (greater p q) r f.nine (λ k h. (f.each k h ∙ sym (get_or-greater p q k), f.small k h))
      (λ k h. omega (arith, get_or-greater p q k, past_p k h, past_q k h)))

  pub products_filled : (a : ℕ) → IsFilled (λ k. get_or p k 0 * a) r 9 → Some r ≡ fitted (scaled a p)
  products_filled a f =
      filled (scaled a p) r f.nine (λ k h. (
        f.each k h ∙ mul_comm (get_or p k 0) a ∙ sym (get_or-scaled a p k),
        f.small k h,
      ))
      (λ k h. let none : a * 0 ≡ 0 = omega arith in get_or-scaled a p k ∙ ap (λ n. a * n) (past_p k h) ∙ none)

  pub differences_filled : IsFilled (λ k. get_or p k 0 - get_or q k 0) r 9
      → ((k : ℕ) → k < 9 → get_or q k 0 ≤ get_or p k 0) → Some r ≡ sub p q
  differences_filled f below =
      let at_most : is_at_most q p ≡ true = at_most_by q p (λ k. below_at k (ltb k 9) refl) in
      let is : r ≡ differences p q = ext_get_or 0 r (differences p q)
      (f.nine ∙ sym nine_p ∙ sym (length-differences p q)) (λ k h. f.each k (omega (arith, f.nine))
      ∙ sym (get_or-differences p q k)) in
      rw (at_most, is) refl
    where
      below_at : (k : ℕ) (b : Bool) → ltb k 9 ≡ b → get_or q k 0 ≤ get_or p k 0
      below_at k true h = below k (ltb-true k 9 h)
      below_at k false h = omega (arith, past_q k (ltb-false k 9 h))

-- a sum or a product that is too large at one power does not fit
pub sums_unfit : (p q : Polynomial) (k : ℕ) → 2 ^ 64 ≤ get_or p k 0 + get_or q k 0 → None ≡ fitted (sum p q)
sums_unfit p q k h = fitted_none (sum p q)
    (λ (f : Fits (sum p q)). let small : get_or (sum p q) k 0 < 2 ^ 64 = f.small k in omega (arith, get_or-sum p q k))

pub products_unfit : (a : ℕ) (p : Polynomial) (k : ℕ) → ¬ (get_or p k 0 * a < 2 ^ 64) → None ≡ fitted (scaled a p)
products_unfit a p k h = fitted_none (scaled a p)
    (λ (f : Fits (scaled a p)). let is : get_or (scaled a p) k 0 ≡ get_or p k 0 * a = get_or-scaled a p k
    ∙ mul_comm a (get_or p k 0) in h (rw (← is) (f.small k)))

-- there is no difference where one coefficient is greater
pub differences_refused : (p q : Polynomial) (k : ℕ) → get_or p k 0 < get_or q k 0 → None ≡ sub p q
differences_refused p q k h = by_test (is_at_most q p) refl
  where
    by_test : (b : Bool) → is_at_most q p ≡ b → None ≡ sub p q
    by_test true e = absurd (omega (arith, at_most_means q p k e))
    by_test false e = rw e refl

-- a comparison that has gone through all places, and one that one place refuses
pub none_above : (p q : Polynomial) (count : ℕ) → length p ≡ 9 → 9 ≤ count
    → ((k : ℕ) → k < count → get_or p k 0 ≤ get_or q k 0) → true ≡ is_at_most p q
none_above p q count nine all each = sym (at_most_by p q (λ k. at_place k (ltb k 9) refl))
  where
    at_place : (k : ℕ) (b : Bool) → ltb k 9 ≡ b → get_or p k 0 ≤ get_or q k 0
    at_place k true h = each k (omega (arith, ltb-true k 9 h))
    at_place k false h = let past : 9 ≤ k = ltb-false k 9 h in let none : get_or p k 0 ≡ 0 =
        get_or_past p k 0 (omega arith) in omega arith

pub one_above : (p q : Polynomial) (k : ℕ) → get_or q k 0 < get_or p k 0 → false ≡ is_at_most p q
one_above p q k h = by_test (is_at_most p q) refl
  where
    by_test : (b : Bool) → is_at_most p q ≡ b → false ≡ is_at_most p q
    by_test true e = absurd (omega (arith, at_most_means p q k e))
    by_test false e = sym e
