-- Numbers that are read from a place of a text on.
use Rattle.std.proofs.Common.{to_z, of_z, w32, FitsSigned, Option, ◌≡◌, ℕ, zero, suc, ◌+◌, ◌-◌, ◌<◌, ◌≤◌, ℤ, Bool}
use Rattle.std.proofs.Common.{true, false, cond, List, [], ◌∷◌, pos, length, length-drop, length-take, drop, take}
use Rattle.std.proofs.Common.{get_or, ap, sym, refl, ◌∙◌, arith}
use Rattle.std.specs.Prelude.{slice_get, unwrap_or, ◌==◌, Some, None}
use Rattle.std.specs.List.{prefix_len}
use Rattle.std.proofs.lemmas.List.{drop_more, get_or-drop, drop-drop}
use Rattle.std.proofs.lemmas.Option.{slice_get_within, slice_get-get_or, get_or_from_slice_get, slice_get_cases}
use Rattle.std.proofs.lemmas.Bool.Decides.{nat_tests}
use Rattle.std.proofs.lemmas.List.Sums.{prefix_len-drop_all, prefix_len-le-length}
use Rattle.std.proofs.lemmas.Int.{to_z-of_z}
use Rattle.teco_base.specs.Arithmetic.{add, mul}
use Rattle.teco_base.specs.Bytes.{is_digit}
use Rattle.teco_base.specs.Text.{range}
use Rattle.teco_model.proofs.Digits.{run_value-more}
use Rattle.teco_model.specs.Arguments.{run_value}
use Rattle.teco_model.specs.Conversion.{sign_len, is_minus, signed_value, reading, number_at}

-- what is left of a text, where it has a character and where it ends
left_at : (text : List ℕ) (place b : ℕ) → slice_get text place ≡ Some b → drop place text ≡ b ∷ drop (place + 1) text
left_at text place b there =
    drop_more text place 0 (slice_get_within text place b there)
    ∙ ap (λ c. c ∷ drop (place + 1) text) (get_or_from_slice_get text place b 0 there)

left_past : (text : List ℕ) (place : ℕ) → slice_get text place ≡ None → drop place text ≡ []
left_past [] zero none = refl
left_past [] (suc n) none = refl
left_past (c ∷ text) zero none = cc
left_past (c ∷ text) (suc n) none = left_past text n none

-- the sign that stands there
module _ (text : List ℕ) (place b : ℕ) (there : slice_get text place ≡ Some b) where
  pub plus_at : b ≡ 43 → sign_len (drop place text) ≡ 1
  plus_at e = ap sign_len (left_at text place b there) ∙ ap (λ c. sign_len (c ∷ [])) e

  pub minus_at : b ≡ 45 → sign_len (drop place text) ≡ 1
  minus_at e = ap sign_len (left_at text place b there) ∙ ap (λ c. sign_len (c ∷ [])) e

  pub no_sign_at : (b ≡ 43 → ⊥) → (b ≡ 45 → ⊥) → sign_len (drop place text) ≡ 0
  no_sign_at p m = ap sign_len (left_at text place b there) ∙ grind (arith, nat_tests)

  pub is_minus_at : is_minus (drop place text) ≡ (b == 45)
  is_minus_at = ap is_minus (left_at text place b there)

module _ (text : List ℕ) (place : ℕ) (none : slice_get text place ≡ None) where
  pub no_sign_past : sign_len (drop place text) ≡ 0
  no_sign_past = ap sign_len (left_past text place none)

  pub no_minus_past : is_minus (drop place text) ≡ false
  no_minus_past = ap is_minus (left_past text place none)

-- how a sign is recognized
pub ruleset signs = (plus_at, minus_at, no_sign_at, no_sign_past, is_minus_at, no_minus_past, slice_get_within)

-- how a run of digits goes on
module _ (text : List ℕ) (place b : ℕ) (there : slice_get text place ≡ Some b) where
  pub run_more : is_digit b ≡ true
      → prefix_len is_digit (drop place text) ≡ 1 + prefix_len is_digit (drop (place + 1) text)
  run_more digit = ap (prefix_len is_digit) (left_at text place b there)
      ∙ ap (λ v. cond v (1 + prefix_len is_digit (drop (place + 1) text)) 0) digit

  pub run_ends : is_digit b ≡ false → prefix_len is_digit (drop place text) ≡ 0
  run_ends other = ap (prefix_len is_digit) (left_at text place b there)
      ∙ ap (λ v. cond v (1 + prefix_len is_digit (drop (place + 1) text)) 0) other

pub run_past : (text : List ℕ) (place : ℕ) → length text ≤ place → prefix_len is_digit (drop place text) ≡ 0
run_past = prefix_len-drop_all is_digit

-- how far the run goes
pub ruleset run = (run_more, run_ends, run_past, slice_get_cases)

-- one more digit
pub value_more : (text : List ℕ) (begin place next : ℕ) → begin ≤ place → place < length text → next ≡ place + 1
    → run_value (range text begin next) ≡ add (mul (run_value (range text begin place)) (pos 10))
    (pos (unwrap_or (slice_get text place) 48 - 48))
value_more text begin place next ordered within e =
    let here : begin + (place - begin) ≡ place = omega arith in
    let after : next - begin ≡ place - begin + 1 = omega arith in
    let digit : get_or (drop begin text) (place - begin) 0 ≡ unwrap_or (slice_get text place) 48 =
    get_or-drop begin text (place - begin) 0 ∙ ap (λ i. get_or text i 0) here
    ∙ sym (ap (λ b. unwrap_or b 48) (slice_get-get_or text place 0 within)) in
    ap (λ n. run_value (take n (drop begin text))) after
    ∙ run_value-more (drop begin text) (place - begin) (omega (arith, length-drop begin text))
    ∙ ap (λ b. add (mul (run_value (range text begin place)) (pos 10)) (pos (b - 48))) digit

-- the same of numbers as the code has them
pub value_code : (text : List ℕ) (begin place next : ℕ) (so_far product digit sum : ℤ) (at : Option ℕ) (b d : ℕ)
    → begin ≤ place → place < length text → next ≡ place + 1 → so_far ≡ run_value (range text begin place)
    → at ≡ slice_get text place → b ≡ unwrap_or at 48 → d ≡ b - 48 → digit ≡ pos d → product ≡ mul so_far (pos 10)
    → sum ≡ add (to_z w32 (of_z w32 product)) (to_z w32 (of_z w32 digit)) → FitsSigned w32 product
    → FitsSigned w32 digit → FitsSigned w32 sum → to_z w32 (of_z w32 sum) ≡ run_value (range text begin next)
value_code text begin place next so_far product digit sum at b d ordered within e is_so_far is_at is_b is_d
    is_digit_value is_product is_sum fits_product fits_digit fits_sum =
    let plain = rw (to_z-of_z w32 product fits_product, to_z-of_z w32 digit fits_digit) at is_sum in
    let more = value_more text begin place next ordered within e in
    to_z-of_z w32 sum fits_sum ∙ cc

reading_some : (minus : Bool) (sign : ℕ) (digits : List ℕ) → 0 < length digits
    → reading minus sign digits ≡ record { number = signed_value minus digits; len = sign + length digits }
reading_some minus sign [] some = absurd (omega arith)
reading_some minus sign (digit ∷ digits) some = refl

reading_none : (minus : Bool) (sign : ℕ) (digits : List ℕ) → length digits ≡ 0
    → reading minus sign digits ≡ record { number = pos 0; len = 0 }
reading_none minus sign [] none = refl
reading_none minus sign (digit ∷ digits) none = absurd (omega arith)

-- the number that is read where its digits are known
module _ (text : List ℕ) (place begin end : ℕ) (from : begin ≡ place + sign_len (drop place text))
    (to : end ≡ begin + prefix_len is_digit (drop begin text)) where
  read_digits : number_at (drop place text) ≡ reading (is_minus (drop place text)) (sign_len (drop place text))
      (range text begin end)
  read_digits =
      let behind : drop (sign_len (drop place text)) (drop place text) ≡ drop begin text =
      drop-drop (sign_len (drop place text)) place text ∙ ap (λ i. drop i text) (sym from) in
      let count : prefix_len is_digit (drop begin text) ≡ end - begin = omega arith in
      ap (λ rest. reading (is_minus (drop place text)) (sign_len (drop place text))
      (take (prefix_len is_digit rest) rest)) behind
      ∙ ap (λ n. reading (is_minus (drop place text)) (sign_len (drop place text)) (take n (drop begin text))) count

  digit_count : length (range text begin end) ≡ end - begin
  digit_count = omega (
    arith,
    length-take (end - begin) (drop begin text),
    prefix_len-le-length is_digit (drop begin text),
  )

  pub read_none : begin ≡ end → number_at (drop place text) ≡ record { number = pos 0; len = 0 }
  read_none none = read_digits ∙ reading_none (is_minus (drop place text)) (sign_len (drop place text))
      (range text begin end) (omega (arith, digit_count))

  pub read_some : (begin ≡ end → ⊥)
      → number_at (drop place text) ≡ record {
        number = signed_value (is_minus (drop place text))
            (range text begin end);
        len = end - place;
      }
  read_some some =
      let len : sign_len (drop place text) + length (range text begin end) ≡ end - place = omega (arith, digit_count) in
      read_digits
      ∙ reading_some (is_minus (drop place text)) (sign_len (drop place text)) (range text begin end)
      (omega (arith, digit_count))
      ∙ ap (λ n. record { number = signed_value (is_minus (drop place text)) (range text begin end); len = n }) len

-- how a number is read
pub ruleset reads = (read_none, read_some)
