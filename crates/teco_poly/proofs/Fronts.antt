-- What stands at the front of a text, up to where it ends: bytes that pass a test, as those of a polynomial do.
use Rattle.teco_poly.proofs.Prelude.{◌≡◌, ℕ, zero, suc, ◌+◌, ◌^◌, ◌<◌, ◌≤◌, Bool, true, false, List, [], ◌∷◌, ◌++◌}
use Rattle.teco_poly.proofs.Prelude.{length, take, drop, sym, ap, ◌∙◌, refl, arith, is_ascii_digit, decimal, codes}
use Rattle.teco_poly.proofs.Prelude.{◌==◌, ◌&&◌, all_ascii_digits, Polynomial, IsPoly, EndsNumber, power_text}
use Rattle.teco_poly.proofs.Prelude.{coefficient_text, terms_from, joined}
use Rattle.std.proofs.Common.{cond}
use Rattle.std.specs.Bool.{⊤}
use Rattle.std.proofs.lemmas.List.{take_at, drop_at}
use Rattle.std.proofs.lemmas.List.Folds.{list_all-append}
use Rattle.std.specs.List.{list_all, prefix_len}
use Rattle.teco_poly.specs.Front.{is_of_polynomial, EndsPolynomial}
use Rattle.teco_poly.specs.Reading.{AreSmall}
use Rattle.teco_poly.specs.Text.{term_text, joined_or_zero, text}
use Rattle.teco_poly.proofs.Digits as digits

-- a test fails where a text begins
abbrev pub Ends : (ℕ → Bool) → List ℕ → Type 0
Ends test [] = ⊤
Ends test (c ∷ rest) = test c ≡ false

both : (a b : Bool) → (a && b) ≡ true → (a ≡ true) × (b ≡ true)
both true b e = (refl, e)
both false b e = absurd (cc)

-- The front whose bytes pass is that of which each byte passes, up to where the test fails.
front_len : (test : ℕ → Bool) (words rest : List ℕ) → list_all test words ≡ true → Ends test rest
    → prefix_len test (words ++ rest) ≡ length words
front_len test [] [] each ends = refl
front_len test [] (c ∷ rest) each ends = rw ends refl
front_len test (c ∷ words) rest each ends =
    let parts = both (test c) (list_all test words) each in
    let more = front_len test words rest parts.1 ends in
    rw parts.0 (omega arith)

module _ (test : ℕ → Bool) (words rest : List ℕ) (each : list_all test words ≡ true) (ends : Ends test rest)
    (whole : List ℕ) (e : whole ≡ words ++ rest) where
  count_is : (count : ℕ) → count ≡ prefix_len test whole → count ≡ length words
  count_is count is = is ∙ ap (prefix_len test) e ∙ front_len test words rest each ends

  pub split_front : (count : ℕ) (front back : List ℕ) → count ≡ prefix_len test whole → front ≡ take count whole
      → back ≡ drop count whole → (front ≡ words) × (back ≡ rest)
  split_front count front back is f b = (
    f ∙ ap (take count) e ∙ take_at words rest count (sym (count_is count is)),
    b ∙ ap (drop count) e ∙ drop_at words rest count (sym (count_is count is)),
  )

-- two fronts of one text are one
pub one_front : (test : ℕ → Bool) (v w x y : List ℕ) → list_all test v ≡ true → list_all test w ≡ true → Ends test x
    → Ends test y → v ++ x ≡ w ++ y → (v ≡ w) × (x ≡ y)
one_front test v w x y each other ends ended e =
    let split = split_front test w y other ended (v ++ x) e (length v) v x (sym (front_len test v x each ends))
    (sym (take_at v x (length v) refl)) (sym (drop_at v x (length v) refl)) in
    split

-- digits
pub are_digits : (ds : List ℕ) → all_ascii_digits ds ≡ true → list_all is_ascii_digit ds ≡ true
are_digits [] each = refl
are_digits (c ∷ ds) each =
    let parts = both (is_ascii_digit c) (all_ascii_digits ds) each in
    ap (λ b. b && list_all is_ascii_digit ds) parts.0 ∙ are_digits ds parts.1

pub decimal_digits : (n : ℕ) → n < 2 ^ 64 → list_all is_ascii_digit (decimal n) ≡ true
decimal_digits n small = are_digits (decimal n) (digits.decimal_digits n small)

pub ends_number : (rest : List ℕ) → EndsNumber rest → Ends is_ascii_digit rest
ends_number [] ends = tt
ends_number (c ∷ rest) ends = ends

pub ends_polynomial : (rest : List ℕ) → EndsPolynomial rest → Ends is_of_polynomial rest
ends_polynomial [] ends = tt
ends_polynomial (c ∷ rest) ends = ends

-- digits are among the bytes of polynomials
digits_pass : (ds : List ℕ) → list_all is_ascii_digit ds ≡ true → list_all is_of_polynomial ds ≡ true
digits_pass [] each = refl
digits_pass (c ∷ ds) each =
    let parts = both (is_ascii_digit c) (list_all is_ascii_digit ds) each in
    rw parts.0 (digits_pass ds parts.1)

pub passes_append : (xs ys : List ℕ) → list_all is_of_polynomial xs ≡ true → list_all is_of_polynomial ys ≡ true
    → list_all is_of_polynomial (xs ++ ys) ≡ true
passes_append xs ys left right = list_all-append is_of_polynomial xs ys
    ∙ ap (λ b. b && list_all is_of_polynomial ys) left ∙ right

decimal_passes : (n : ℕ) → n < 2 ^ 64 → list_all is_of_polynomial (decimal n) ≡ true
decimal_passes n small = digits_pass (decimal n) (decimal_digits n small)

-- so do all bytes of a polynomial's text
power_passes : (k : ℕ) → k < 2 ^ 64 → list_all is_of_polynomial (power_text k) ≡ true
power_passes zero small = refl
power_passes (suc zero) small = refl
power_passes (suc (suc k)) small = decimal_passes (suc (suc k)) small

coefficient_passes : (c k : ℕ) → c < 2 ^ 64 → list_all is_of_polynomial (coefficient_text c k) ≡ true
coefficient_passes c zero small = decimal_passes c small
coefficient_passes c (suc k) small = by_test (c == 1)
  where
    by_test : (b : Bool) → list_all is_of_polynomial (cond b [] (decimal c ++ codes "*")) ≡ true
    by_test true = refl
    by_test false = passes_append (decimal c) (codes "*") (decimal_passes c small) refl

term_passes : (c k : ℕ) → c < 2 ^ 64 → k < 2 ^ 64 → list_all is_of_polynomial (term_text c k) ≡ true
term_passes c k small power = passes_append (coefficient_text c k) (power_text k) (coefficient_passes c k small)
    (power_passes k power)

terms_pass : (lead : List ℕ) (power : ℕ) (p : Polynomial) → list_all is_of_polynomial lead ≡ true → power + length p ≤ 9
    → AreSmall p → list_all is_of_polynomial (joined lead (terms_from power p)) ≡ true
terms_pass lead power [] passes few small = refl
terms_pass lead power (c ∷ p) passes few small =
    by_test (c == 0) (terms_pass lead (suc power) p passes (omega arith) small.1)
    (terms_pass (codes " + ") (suc power) p refl (omega arith) small.1)
  where
    by_test : (b : Bool) → list_all is_of_polynomial (joined lead (terms_from (suc power) p)) ≡ true
        → list_all is_of_polynomial (joined (codes " + ") (terms_from (suc power) p)) ≡ true
        → list_all is_of_polynomial (joined lead
        (cond b (terms_from (suc power) p) (term_text c power ∷ terms_from (suc power) p))) ≡ true
    by_test true same behind = same
    by_test false same behind =
        passes_append lead (term_text c power ++ joined (codes " + ") (terms_from (suc power) p)) passes
        (passes_append (term_text c power) (joined (codes " + ") (terms_from (suc power) p))
        (term_passes c power small.0 (omega arith)) behind)

or_zero_passes : (ts : List (List ℕ)) → list_all is_of_polynomial (joined [] ts) ≡ true
    → list_all is_of_polynomial (joined_or_zero ts) ≡ true
or_zero_passes [] each = refl
or_zero_passes (t ∷ ts) each = each

pub polynomial_passes : (p : Polynomial) → IsPoly p → list_all is_of_polynomial (text p) ≡ true
polynomial_passes p is = or_zero_passes (terms_from 0 p) (terms_pass [] 0 p refl (omega (arith, is.nine)) is.small)
