-- The coefficients of sums, products and the like, power by power; and what it is to fit.
use Rattle.std.proofs.Common.{◌≡◌, ℕ, zero, suc, ◌+◌, ◌-◌, ◌*◌, ◌^◌, ◌<◌, ◌≤◌, max, Bool, true, false, [], ◌∷◌}
use Rattle.std.proofs.Common.{length, drop, get_or, Some, None, sym, ap, ◌∙◌, refl, arith, ltb}
use Rattle.std.proofs.lemmas.List.{ext_get_or, get_or-drop, get_or_past}
use Rattle.std.proofs.lemmas.Bool.{ltb-true, ltb-false, lt-ltb, eq-eqb, leb-true, le-leb}
use Rattle.std.proofs.lemmas.Bool.Decides.{Decides-eqb}
use Rattle.std.specs.List.{list_all}
use Rattle.std.specs.Prelude.{◌&&◌, ◌==◌, nat_le}
use Rattle.teco_poly.specs.Polynomial.{Polynomial, sum, scaled, greater, differences, is_at_most, first, in_64_bits}
use Rattle.teco_poly.specs.Polynomial.{fits, fitted}

-- 64 bits hold each coefficient, and the degree is at most 8
pub record Fits (p : Polynomial) : Type 0 where
  pub small : (k : ℕ) → get_or p k 0 < 2 ^ 64
  pub low : (k : ℕ) → 9 ≤ k → get_or p k 0 ≡ 0

pub get_or-sum : (p q : Polynomial) (k : ℕ) → get_or (sum p q) k 0 ≡ get_or p k 0 + get_or q k 0
get_or-sum [] q k = omega arith
get_or-sum (a ∷ p) [] k = omega arith
get_or-sum (a ∷ p) (b ∷ q) zero = refl
get_or-sum (a ∷ p) (b ∷ q) (suc k) = get_or-sum p q k

pub get_or-scaled : (a : ℕ) (q : Polynomial) (k : ℕ) → get_or (scaled a q) k 0 ≡ a * get_or q k 0
get_or-scaled a [] k = omega arith
get_or-scaled a (b ∷ q) zero = refl
get_or-scaled a (b ∷ q) (suc k) = get_or-scaled a q k

pub get_or-greater : (p q : Polynomial) (k : ℕ) → get_or (greater p q) k 0 ≡ max (get_or p k 0) (get_or q k 0)
get_or-greater [] q k = omega arith
get_or-greater (a ∷ p) [] k = omega arith
get_or-greater (a ∷ p) (b ∷ q) zero = refl
get_or-greater (a ∷ p) (b ∷ q) (suc k) = get_or-greater p q k

pub get_or-differences : (p q : Polynomial) (k : ℕ) → get_or (differences p q) k 0 ≡ get_or p k 0 - get_or q k 0
get_or-differences [] q k = omega arith
get_or-differences (a ∷ p) [] k = omega arith
get_or-differences (a ∷ p) (b ∷ q) zero = refl
get_or-differences (a ∷ p) (b ∷ q) (suc k) = get_or-differences p q k

pub length-differences : (p q : Polynomial) → length (differences p q) ≡ length p
length-differences [] q = refl
length-differences (a ∷ p) [] = refl
length-differences (a ∷ p) (b ∷ q) = ap suc (length-differences p q)

pub length-first : (n : ℕ) (p : Polynomial) → length (first n p) ≡ n
length-first zero p = refl
length-first (suc n) [] = ap suc (length-first n [])
length-first (suc n) (c ∷ p) = ap suc (length-first n p)

pub get_or-first : (n : ℕ) (p : Polynomial) (k : ℕ) → k < n → get_or (first n p) k 0 ≡ get_or p k 0
get_or-first zero p k h = absurd (omega arith)
get_or-first (suc n) [] zero h = refl
get_or-first (suc n) [] (suc k) h = get_or-first n [] k (omega arith)
get_or-first (suc n) (c ∷ p) zero h = refl
get_or-first (suc n) (c ∷ p) (suc k) h = get_or-first n p k (omega arith)

both : (a b : Bool) → (a && b) ≡ true → (a ≡ true) × (b ≡ true)
both true b h = (refl, h)
both false b h = absurd (cc)

-- what a test of each of a list says of each place, and from each place
small_at : (p : Polynomial) (k : ℕ) → list_all in_64_bits p ≡ true → get_or p k 0 < 2 ^ 64
small_at [] k h = omega arith
small_at (c ∷ p) zero h = ltb-true c (2 ^ 64) (both (in_64_bits c) (list_all in_64_bits p) h).0
small_at (c ∷ p) (suc k) h = small_at p k (both (in_64_bits c) (list_all in_64_bits p) h).1

zero_at : (p : Polynomial) (k : ℕ) → list_all (λ c. c == 0) p ≡ true → get_or p k 0 ≡ 0
zero_at [] k h = refl
zero_at (c ∷ p) zero h = (Decides-eqb c 0).0 (both (c == 0) (list_all (λ c. c == 0) p) h).0
zero_at (c ∷ p) (suc k) h = zero_at p k (both (c == 0) (list_all (λ c. c == 0) p) h).1

all_small : (p : Polynomial) → ((k : ℕ) → get_or p k 0 < 2 ^ 64) → list_all in_64_bits p ≡ true
all_small [] h = refl
all_small (c ∷ p) h = let here : in_64_bits c ≡ true = lt-ltb c (2 ^ 64) (h 0) in rw here (all_small p (λ k. h (suc k)))

all_zero : (p : Polynomial) → ((k : ℕ) → get_or p k 0 ≡ 0) → list_all (λ c. c == 0) p ≡ true
all_zero [] h = refl
all_zero (c ∷ p) h = let here : (c == 0) ≡ true = eq-eqb c 0 (h 0) in rw here (all_zero p (λ k. h (suc k)))

-- the comparison of polynomials is that of each coefficient
pub at_most_means : (p q : Polynomial) (k : ℕ) → is_at_most p q ≡ true → get_or p k 0 ≤ get_or q k 0
at_most_means [] q k h = omega arith
at_most_means (a ∷ p) [] zero h = let none : a ≡ 0 = (Decides-eqb a 0).0 (both (a == 0) (is_at_most p []) h).0 in
    omega arith
at_most_means (a ∷ p) [] (suc k) h = at_most_means p [] k (both (a == 0) (is_at_most p []) h).1
at_most_means (a ∷ p) (b ∷ q) zero h = leb-true a b (both (nat_le a b) (is_at_most p q) h).0
at_most_means (a ∷ p) (b ∷ q) (suc k) h = at_most_means p q k (both (nat_le a b) (is_at_most p q) h).1

pub at_most_by : (p q : Polynomial) → ((k : ℕ) → get_or p k 0 ≤ get_or q k 0) → is_at_most p q ≡ true
at_most_by [] q h = refl
at_most_by (a ∷ p) [] h =
    let here : (a == 0) ≡ true = eq-eqb a 0 (omega (arith, h 0)) in
    let others : is_at_most p [] ≡ true = at_most_by p [] (λ k. h (suc k)) in
    rw (here, others) refl
at_most_by (a ∷ p) (b ∷ q) h =
    let here : nat_le a b ≡ true = le-leb a b (h 0) in
    let others : is_at_most p q ≡ true = at_most_by p q (λ k. h (suc k)) in
    rw (here, others) refl

-- what passes the test fits, and what fits passes it
pub fits_means : (p : Polynomial) → fits p ≡ true → Fits p
fits_means p h =
    let parts = both (list_all in_64_bits p) (list_all (λ c. c == 0) (drop 9 p)) h in
    record {
      small = λ k. small_at p k parts.0;
      low = λ k behind.
          let at : 9 + (k - 9) ≡ k = omega arith in
          rw (← at) (sym (get_or-drop 9 p (k - 9) 0) ∙ zero_at (drop 9 p) (k - 9) parts.1);
    }

pub fits_by : (p : Polynomial) → Fits p → fits p ≡ true
fits_by p h =
    let small : list_all in_64_bits p ≡ true = all_small p h.small in
    let low : list_all (λ c. c == 0) (drop 9 p) ≡ true =
    all_zero (drop 9 p) (λ k. get_or-drop 9 p k 0 ∙ h.low (9 + k) (omega arith)) in
    rw (small, low) refl

-- what the coefficients of a polynomial that fits are fitted to
pub fitted_is : (p r : Polynomial) → length r ≡ 9 → ((k : ℕ) → k < 9 → get_or r k 0 ≡ get_or p k 0) → Fits p
    → Some r ≡ fitted p
fitted_is p r nine same h =
    let e : first 9 p ≡ r = ext_get_or 0 (first 9 p) r (length-first 9 p ∙ sym nine)
    (λ k within. get_or-first 9 p k (within_nine k within) ∙ sym (same k (within_nine k within))) in
    rw (fits_by p h, e) refl
  where
    within_nine : (k : ℕ) → k < length (first 9 p) → k < 9
    within_nine k within = omega (arith, length-first 9 p)

pub fitted_none : (p : Polynomial) → (Fits p → ⊥) → None ≡ fitted p
fitted_none p unfit = sym (unfitted (fits p) refl)
  where
    unfitted : (b : Bool) → fits p ≡ b → fitted p ≡ None
    unfitted true e = absurd (unfit (fits_means p e))
    unfitted false e = rw e refl

-- it is enough to know the first nine, and that the others are 0
pub fits_nine : (p : Polynomial) → ((k : ℕ) → k < 9 → get_or p k 0 < 2 ^ 64) → ((k : ℕ) → 9 ≤ k → get_or p k 0 ≡ 0)
    → Fits p
fits_nine p small low = record { small = λ k. within k (ltb k 9) refl; low = low }
  where
    within : (k : ℕ) (b : Bool) → ltb k 9 ≡ b → get_or p k 0 < 2 ^ 64
    within k true e = small k (ltb-true k 9 e)
    within k false e = let zero_here : get_or p k 0 ≡ 0 = low k (ltb-false k 9 e) in omega arith

-- what was fitted has the coefficients that it had
pub fitted_like : (p r : Polynomial) → Some r ≡ fitted p
    → (length r ≡ 9) × Fits p × ((k : ℕ) → get_or r k 0 ≡ get_or p k 0)
fitted_like p r e = by_test (fits p) refl
  where
    same_at : r ≡ first 9 p → Fits p → (k : ℕ) (b : Bool) → ltb k 9 ≡ b → get_or r k 0 ≡ get_or p k 0
    same_at is f k true h = rw is (get_or-first 9 p k (ltb-true k 9 h))
    same_at is f k false h =
        rw is (get_or_past (first 9 p) k 0 (omega (arith, length-first 9 p, ltb-false k 9 h))
        ∙ sym (f.low k (ltb-false k 9 h)))

    by_test : (b : Bool) → fits p ≡ b → (length r ≡ 9) × Fits p × ((k : ℕ) → get_or r k 0 ≡ get_or p k 0)
    by_test false h = let none : fitted p ≡ None = (rw h refl) in absurd (cc)
    by_test true h =
        let some : fitted p ≡ Some (first 9 p) = (rw h refl) in
        let is : r ≡ first 9 p = (cc) in
        (rw is (length-first 9 p), fits_means p h, λ k. same_at is (fits_means p h) k (ltb k 9) refl)

-- what was not fitted does not fit
pub unfitted : (p : Polynomial) → None ≡ fitted p → Fits p → ⊥
unfitted p e f = let some : fitted p ≡ Some (first 9 p) = (rw (fits_by p f) refl) in cc

-- polynomials with the same coefficients fit alike
pub fits_like : (p q : Polynomial) → ((k : ℕ) → get_or p k 0 ≡ get_or q k 0) → Fits p → Fits q
fits_like p q same f = record { small = λ k. rw (← same k) (f.small k); low = λ k h. sym (same k) ∙ f.low k h }

pub fitted_alike : (p q : Polynomial) → ((k : ℕ) → get_or p k 0 ≡ get_or q k 0) → fitted p ≡ fitted q
fitted_alike p q same = by_test (fits p) refl
  where
    by_test : (b : Bool) → fits p ≡ b → fitted p ≡ fitted q
    by_test true h =
        let some : fitted p ≡ Some (first 9 p) = (rw h refl) in
        let like = fitted_like p (first 9 p) (sym some) in
        some ∙ fitted_is q (first 9 p) like.0 (λ k within. like.2 k ∙ same k) (fits_like p q same like.1)
    by_test false h =
        let none : fitted p ≡ None = (rw h refl) in
        none ∙ fitted_none q (λ f. unfitted p (sym none) (fits_like q p (λ k. sym (same k)) f))
