-- Texts of digits, and the numbers that they are the texts of.
use Rattle.teco_poly.proofs.Prelude.{◌≡◌, ℕ, zero, suc, ◌+◌, ◌-◌, ◌*◌, ◌^◌, ◌<◌, ◌≤◌, Bool, true, false, List, [], ◌∷◌}
use Rattle.teco_poly.proofs.Prelude.{length, get_or, drop, sym, ap, ◌∙◌, refl, arith, ltb, subst, Option, Some, None}
use Rattle.teco_poly.proofs.Prelude.{ltb-true, ltb-false, ◌==◌, drop_more, decimal_nonempty, decimal_digit, decimal}
use Rattle.teco_poly.proofs.Prelude.{all_ascii_digits}
use Rattle.std.proofs.Common.{rules}
use Rattle.std.proofs.Common.{IfSome, IfNone}
use Rattle.std.specs.Option.{SomeIff}
use Rattle.std.proofs.lemmas.Fmt.{digits_decimal, digits_value-decimal, decimal-digits_value}
use Rattle.std.proofs.lemmas.Fmt.{first_decimal}
use Rattle.std.proofs.lemmas.Str.Parse.{IsNumeralModel, numerals_by_fold, numerals_by_value, digit_at}
use Rattle.std.specs.Int.{IsInRange}
use Rattle.std.specs.Str.Parse.{digits_value}

-- a number and then more digits
abbrev pub read_on : ℕ → List ℕ → ℕ
read_on n [] = n
read_on n (c ∷ cs) = read_on (n * 10 + (c - 48)) cs

read_model : IsNumeralModel (λ ds. all_ascii_digits ds ≡ true) (read_on 0)
read_model = numerals_by_fold _ (search rules) read_on (search rules)

pub value_model : IsNumeralModel (λ ds. all_ascii_digits ds ≡ true) (digits_value 10)
value_model = numerals_by_value _ (search rules)

-- what is read is what the digits stand for
value_read : (ds : List ℕ) → all_ascii_digits ds ≡ true → read_on 0 ds ≡ digits_value 10 ds
value_read ds each = read_model.same ds (read_model.to ds each)

-- more digits make a number no smaller
read_on-le : (n : ℕ) (ds : List ℕ) → n ≤ read_on n ds
read_on-le n [] = omega arith
read_on-le n (c ∷ cs) = omega (arith, read_on-le (n * 10 + (c - 48)) cs)

-- a digit more
module _ (ds : List ℕ) (n i : ℕ) (within : i < length ds) (so_far : read_on n (drop i ds) ≡ read_on 0 ds) where
  pub read_more : (m : ℕ) → m ≡ n * 10 + (get_or ds i 0 - 48) → read_on m (drop (i + 1) ds) ≡ read_on 0 ds
  read_more m e = ap (λ k. read_on k (drop (i + 1) ds)) e ∙ sym (ap (read_on n) (drop_more ds i 0 within)) ∙ so_far

  read_larger : all_ascii_digits ds ≡ true → 2 ^ 64 ≤ n * 10 + (get_or ds i 0 - 48) → ¬ (digits_value 10 ds < 2 ^ 64)
  read_larger each large small =
      omega (
        arith,
        read_on-le (n * 10 + (get_or ds i 0 - 48)) (drop (i + 1) ds),
        read_more (n * 10 + (get_or ds i 0 - 48)) refl,
        value_read ds each,
      )

  pub product_larger : all_ascii_digits ds ≡ true → ¬ (n * 10 < 2 ^ 64) → ¬ (digits_value 10 ds < 2 ^ 64)
  product_larger each large = read_larger each (let most : 2 ^ 64 ≤ n * 10 = omega (arith, large) in omega arith)

  pub sum_larger : all_ascii_digits ds ≡ true → (m d : ℕ) → m ≡ n * 10 → d ≡ get_or ds i 0 - 48 → ¬ (m + d < 2 ^ 64)
      → ¬ (digits_value 10 ds < 2 ^ 64)
  sum_larger each m d e f large = read_larger each (let most : 2 ^ 64 ≤ m + d = omega (arith, large) in omega arith)

-- no digit is left
pub read_all : (ds : List ℕ) (n i : ℕ) → length ds ≤ i → all_ascii_digits ds ≡ true
    → read_on n (drop i ds) ≡ read_on 0 ds → n ≡ digits_value 10 ds
read_all ds n i done each e = sym (ap (read_on n) (none_left i ds done)) ∙ e ∙ value_read ds each
  where
    none_left : (i : ℕ) (cs : List ℕ) → length cs ≤ i → drop i cs ≡ []
    none_left zero [] h = refl
    none_left zero (c ∷ cs) h = absurd (omega arith)
    none_left (suc i) [] h = refl
    none_left (suc i) (c ∷ cs) h = none_left i cs (omega arith)

-- each digit is one from 48 to 57
pub digit_bounds : (ds : List ℕ) (i : ℕ) → all_ascii_digits ds ≡ true → i < length ds → IsInRange 48 57 (get_or ds i 0)
digit_bounds ds i each within = digit_at ds i (read_model.to ds each) within

pub some_digits : (ds : List ℕ) → false ≡ (length ds == 0) → 0 < length ds
some_digits [] e = absurd (cc)
some_digits (c ∷ cs) e = omega arith

-- digits of which the first is no needless 0 are the text of what they stand for
module _ (ds : List ℕ) (each : all_ascii_digits ds ≡ true) where
  pub number_found : 0 < length ds → ¬ ((1 < length ds) × (get_or ds 0 0 ≡ 48)) → (r : Option ℕ)
      → SomeIff r (digits_value 10 ds < 2 ^ 64) (digits_value 10 ds) → IfSome r (λ n. (n < 2 ^ 64) × (ds ≡ decimal n))
  number_found some unpadded None h = tt
  number_found some unpadded (Some n) h = (
    subst (λ m. m < 2 ^ 64) (sym h.1) h.0,
    sym (decimal-digits_value value_model ds each some first h.0)
        ∙ ap decimal (sym h.1),
  )
    where
      first : get_or ds 0 0 ≡ 48 → length ds ≡ 1
      first e = one (ltb 1 (length ds)) refl
        where
          one : (b : Bool) → ltb 1 (length ds) ≡ b → length ds ≡ 1
          one true more = absurd (unpadded (ltb-true 1 (length ds) more, e))
          one false more = omega (arith, ltb-false 1 (length ds) more)

-- no number of 64 bits has a text without digits, one that begins with a needless 0, or one that stands for more
pub none_empty : (ds : List ℕ) → length ds ≡ 0 → (n : ℕ) → n < 2 ^ 64 → ds ≡ decimal n → ⊥
none_empty ds none n small e = omega (arith, decimal_nonempty n small, ap length e)

pub none_padded : (ds : List ℕ) → (1 < length ds) × (get_or ds 0 0 ≡ 48) → (n : ℕ) → n < 2 ^ 64 → ds ≡ decimal n → ⊥
none_padded ds padded zero small e = omega (arith, ap length (e ∙ decimal_digit 0 (omega arith)))
none_padded ds padded (suc n) small e =
    omega (arith, first_decimal (suc n) (omega arith) small, ap (λ xs. get_or xs 0 0) e)

pub none_larger : (ds : List ℕ) (r : Option ℕ) → SomeIff r (digits_value 10 ds < 2 ^ 64) (digits_value 10 ds)
    → IfNone r ((n : ℕ) → n < 2 ^ 64 → ds ≡ decimal n → ⊥)
none_larger ds (Some n) h = tt
none_larger ds None h = λ n small e. h (omega (arith, digits_value-decimal value_model n small, ap (digits_value 10) e))

-- the text of a number is of digits
pub decimal_digits : (n : ℕ) → n < 2 ^ 64 → all_ascii_digits (decimal n) ≡ true
decimal_digits n small = digits_decimal value_model n small
