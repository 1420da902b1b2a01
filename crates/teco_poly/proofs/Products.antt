-- How a product and a value come about from the highest power down.
use Rattle.teco_poly.proofs.Prelude.{◌≡◌, ℕ, zero, suc, ◌+◌, ◌*◌, ◌^◌, ◌<◌, ◌≤◌, [], ◌∷◌, length, get_or, drop, Option}
use Rattle.teco_poly.proofs.Prelude.{Some, None, true, false, sym, ap, ◌∙◌, refl, arith, drop_more, lt-ltb, Polynomial}
use Rattle.teco_poly.proofs.Prelude.{sum, scaled, raised, product, first, fitted, value, at, in_64_bits}
use Rattle.std.proofs.lemmas.Bool.{le-ltb}
use Rattle.teco_poly.proofs.Fitting.{Fits, get_or-sum, fitted_none, fitted_like, unfitted, fitted_alike}
use Rattle.teco_poly.proofs.Values.{value-cons, value-drop}

fits_left : (p q : Polynomial) → Fits (sum p q) → Fits p
fits_left p q f = record {
  small = λ k. let whole = f.small k in omega (arith, get_or-sum p q k, whole);
  low = λ k h. let whole = f.low k h in omega (arith, get_or-sum p q k, whole);
}

fits_right : (p q : Polynomial) → Fits (sum p q) → Fits q
fits_right p q f = record {
  small = λ k. let whole = f.small k in omega (arith, get_or-sum p q k, whole);
  low = λ k h. let whole = f.low k h in omega (arith, get_or-sum p q k, whole);
}

fits_lower : (p : Polynomial) → Fits (raised p) → Fits p
fits_lower p f = record { small = λ k. f.small (suc k); low = λ k h. f.low (suc k) (omega arith) }

-- where a product fits, so does that of the part from a power on
fits_drop : (i : ℕ) (p q : Polynomial) → Fits (product p q) → Fits (product (drop i p) q)
fits_drop zero p q f = f
fits_drop (suc i) [] q f = f
fits_drop (suc i) (a ∷ p) q f =
    fits_drop i p q (fits_lower (product p q) (fits_right (scaled a q) (raised (product p q)) f))

get_or-raised : (p q : Polynomial) → ((k : ℕ) → get_or p k 0 ≡ get_or q k 0) → (k : ℕ)
    → get_or (raised p) k 0 ≡ get_or (raised q) k 0
get_or-raised p q same zero = refl
get_or-raised p q same (suc k) = same k

-- a sum fits where those of the same coefficients do
sum_same : (p q x y : Polynomial) → ((k : ℕ) → get_or p k 0 ≡ get_or x k 0) → ((k : ℕ) → get_or q k 0 ≡ get_or y k 0)
    → (k : ℕ) → get_or (sum p q) k 0 ≡ get_or (sum x y) k 0
sum_same p q x y left right k = omega (arith, get_or-sum p q k, get_or-sum x y k, left k, right k)

module _ (a : ℕ) (q rest : Polynomial) where
  pub scaled_unfit : None ≡ fitted (scaled a q) → None ≡ fitted (sum (scaled a q) (raised rest))
  scaled_unfit e = fitted_none (sum (scaled a q) (raised rest))
      (λ f. unfitted (scaled a q) e (fits_left (scaled a q) (raised rest) f))

  pub raised_unfit : None ≡ fitted (raised rest) → None ≡ fitted (sum (scaled a q) (raised rest))
  raised_unfit e = fitted_none (sum (scaled a q) (raised rest))
      (λ f. unfitted (raised rest) e (fits_right (scaled a q) (raised rest) f))

  pub summed : (x y : Polynomial) (r : Option Polynomial) → Some x ≡ fitted (scaled a q) → Some y ≡ fitted (raised rest)
      → r ≡ fitted (sum x y) → r ≡ fitted (sum (scaled a q) (raised rest))
  summed x y r scaled_is raised_is e =
      e ∙ fitted_alike (sum x y) (sum (scaled a q) (raised rest))
      (sum_same x y (scaled a q) (raised rest) (fitted_like (scaled a q) x scaled_is).2
      (fitted_like (raised rest) y raised_is).2)

-- a term more, at the power before
module _ (p q acc : Polynomial) (i j : ℕ) (below : i ≡ j + 1) (within : i ≤ length p)
    (so_far : Some acc ≡ fitted (product (drop i p) q)) where
  product_part : product (drop j p) q ≡ sum (scaled (get_or p j 0) q) (raised (product (drop i p) q))
  product_part =
      ap (λ rest. product rest q) (drop_more p j 0 (omega arith))
      ∙ ap (λ n. sum (scaled (get_or p j 0) q) (raised (product (drop n p) q))) (sym below)

  same_part : (k : ℕ) → get_or (sum (scaled (get_or p j 0) q) (raised acc)) k 0 ≡ get_or (product (drop j p) q) k 0
  same_part k =
      sum_same (scaled (get_or p j 0) q) (raised acc) (scaled (get_or p j 0) q) (raised (product (drop i p) q))
      (λ k. refl)
      (get_or-raised acc (product (drop i p) q) (fitted_like (product (drop i p) q) acc so_far).2) k
      ∙ ap (λ x. get_or x k 0) (sym product_part)

  pub product_more : (r : Polynomial) → Some r ≡ fitted (sum (scaled (get_or p j 0) q) (raised acc))
      → Some r ≡ fitted (product (drop j p) q)
  product_more r e = e ∙ fitted_alike (sum (scaled (get_or p j 0) q) (raised acc)) (product (drop j p) q) same_part

  pub product_unfit : None ≡ fitted (sum (scaled (get_or p j 0) q) (raised acc)) → None ≡ fitted (product p q)
  product_unfit e =
      fitted_none (product p q) (λ f.
      unfitted (product (drop j p) q)
      (e ∙ fitted_alike (sum (scaled (get_or p j 0) q) (raised acc)) (product (drop j p) q) same_part)
      (fits_drop j p q f))

-- a value that 64 bits hold, and one that they do not
pub at_some : (p : Polynomial) (n v : ℕ) → v < 2 ^ 64 → v ≡ value p n → Some v ≡ at p n
at_some p n v small is = let fits : in_64_bits (value p n) ≡ true = lt-ltb (value p n) (2 ^ 64) (rw (← is) small) in
    rw (fits, is) refl

at_none : (p : Polynomial) (n : ℕ) → 2 ^ 64 ≤ value p n → None ≡ at p n
at_none p n large = let unfit : in_64_bits (value p n) ≡ false = le-ltb (value p n) (2 ^ 64) large in rw unfit refl

not_below : (a b : ℕ) → (a < b → ⊥) → b ≤ a
not_below a b h = omega arith

module _ (p : Polynomial) (n acc i j : ℕ) (below : i ≡ j + 1) (within : i ≤ length p)
    (so_far : acc ≡ value (drop i p) n) where
  value_part : acc * n + get_or p j 0 ≡ value (drop j p) n
  value_part =
      sym (ap (λ rest. value rest n) (drop_more p j 0 (omega arith)) ∙ value-cons (get_or p j 0) (drop (j + 1) p) n
      ∙ ap (λ m. get_or p j 0 + n * value (drop m p) n) (sym below) ∙ ap (λ v. get_or p j 0 + n * v) (sym so_far)
      ∙ omega arith)

  pub value_more : (v m : ℕ) → m ≡ acc * n → v ≡ m + get_or p j 0 → v ≡ value (drop j p) n
  value_more v m e is = is ∙ ap (λ m. m + get_or p j 0) e ∙ value_part

  too_large : get_or p j 0 < 2 ^ 64 → 2 ^ 64 ≤ acc * n + get_or p j 0 → None ≡ at p n
  too_large small large = at_none p n (some_n n refl)
    where
      some_n : (m : ℕ) → n ≡ m → 2 ^ 64 ≤ value p n
      some_n zero e = absurd (omega (arith, ap (λ m. acc * m) e))
      some_n (suc m) e = omega (arith, value_part, value-drop j p n (omega arith))

  pub product_too_large : get_or p j 0 < 2 ^ 64 → ¬ (acc * n < 2 ^ 64) → None ≡ at p n
  product_too_large small unfit = too_large small (omega (arith, not_below (acc * n) (2 ^ 64) unfit))

  pub sum_too_large : (m : ℕ) → m ≡ acc * n → get_or p j 0 < 2 ^ 64 → ¬ (m + get_or p j 0 < 2 ^ 64) → None ≡ at p n
  sum_too_large m e small unfit = too_large small (omega (arith, not_below (m + get_or p j 0) (2 ^ 64) unfit))

-- before the first step nothing is left of nine coefficients, and after the last all of them
none_left : (n : ℕ) (p : Polynomial) → length p ≡ n → drop n p ≡ []
none_left zero [] e = refl
none_left zero (c ∷ p) e = absurd (omega arith)
none_left (suc n) [] e = refl
none_left (suc n) (c ∷ p) e = none_left n p (omega arith)

pub product_begun : (p q : Polynomial) → length p ≡ 9 → Some (first 9 []) ≡ fitted (product (drop 9 p) q)
product_begun p q nine = let none : drop 9 p ≡ [] = none_left 9 p nine in rw none refl

pub value_begun : (p : Polynomial) (n : ℕ) → length p ≡ 9 → 0 ≡ value (drop 9 p) n
value_begun p n nine = let none : drop 9 p ≡ [] = none_left 9 p nine in rw none refl

pub all_left : (i : ℕ) (p : Polynomial) → i ≤ 0 → drop i p ≡ p
all_left i p done = ap (λ k. drop k p) (let e : i ≡ 0 = omega arith in e)
