-- What the parts of a term begin with.
use Rattle.teco_claims.proofs.Prelude.{◌≡◌, ℕ, zero, suc, ◌^◌, ◌<◌, Bool, true, false, cond, Option, Some, None, List}
use Rattle.teco_claims.proofs.Prelude.{[], ◌∷◌, ◌++◌, length, sym, subst, ◌∙◌, refl, arith, append_assoc, ◌&&◌}
use Rattle.teco_claims.proofs.Prelude.{eqb-true, decimal_is_IsNumeral_wide, is_ascii_digit, decimal, list_all, codes}
use Rattle.teco_claims.proofs.Prelude.{◌≢◌, ◌==◌, ClaimMeasure, One, Number, Length, Turns, PushedNumber, PushedLength}
use Rattle.teco_claims.proofs.Prelude.{Steps, Pointer, Size, Held, LineEnd, LineStart, LastLength, Typed, EntryHeld}
use Rattle.teco_claims.proofs.Prelude.{Fraction}
use Rattle.teco_claims.proofs.Prelude.{ClaimTerm, begins, EndsPart, EndsTerm, IsTerm, name_text, divisor_text}
use Rattle.teco_claims.proofs.Prelude.{fraction_text, is_one, factor_text, has_unit, unit_text, body_text, EndsNumber}
use Rattle.std.proofs.Common.{◌||◌}
use Rattle.teco_base.specs.Bytes.{is_among}
use Rattle.teco_claims.specs.Front.{goes_on}
use Rattle.teco_poly.proofs.Digits.{value_model}
use Rattle.teco_poly.proofs.Fronts.{are_digits}

pub first_byte : {c d : ℕ} {x y : List ℕ} → c ∷ x ≡ d ∷ y → c ≡ d
first_byte e = cc

pub clash : (b : Bool) → b ≡ true → b ≡ false → ⊥
clash true e f = absurd (cc)
clash false e f = absurd (cc)

or_left : (a b : Bool) → (a || b) ≡ false → a ≡ false
or_left false b e = refl
or_left true b e = absurd (cc)

and_left : (a b : Bool) → (a && b) ≡ true → a ≡ true
and_left true b e = refl
and_left false b e = absurd (cc)

-- the bytes that numbers, powers, products and signs go on with
abbrev pub stops : ℕ → Bool
stops c = goes_on c || is_among c (codes "*-+")

abbrev pub IsApart : List ℕ → Type 0
IsApart text = begins stops text ≡ false

pub apart_part : (text : List ℕ) → IsApart text → EndsPart text
apart_part [] e = tt
apart_part (c ∷ rest) e = or_left (goes_on c) (is_among c (codes "*-+")) e

pub part_number : (text : List ℕ) → EndsPart text → EndsNumber text
part_number [] e = tt
part_number (c ∷ rest) e = or_left (is_ascii_digit c) (is_among c (codes "/N^")) e

pub apart_byte : (text : List ℕ) (d : ℕ) → IsApart text → stops d ≡ true → (words : List ℕ) → text ≢ d ∷ words
apart_byte text d apart is words same = clash (stops d) is (subst (λ t. begins stops t ≡ false) same apart)

pub part_byte : (text : List ℕ) (d : ℕ) → EndsPart text → goes_on d ≡ true → (words : List ℕ) → text ≢ d ∷ words
part_byte text d ends is words same = clash (goes_on d) is (subst EndsPart same ends)

pub term_apart : (rest : List ℕ) → EndsTerm rest → IsApart rest
term_apart [] ends = absurd ends
term_apart (c ∷ rest) ends = by_tests (c == 32) (c == 10) refl refl ends
  where
    by_tests : (a b : Bool) → (c == 32) ≡ a → (c == 10) ≡ b → (a || b) ≡ true → stops c ≡ false
    by_tests true b is other e = let byte : c ≡ 32 = eqb-true c 32 is in rw byte refl
    by_tests false true is other e = let byte : c ≡ 10 = eqb-true c 10 other in rw byte refl
    by_tests false false is other e = absurd (cc)

-- the name of a measure, or what stands behind a term
pub name_apart : (measure : Option ClaimMeasure) (rest : List ℕ) → EndsTerm rest → IsApart (name_text measure ++ rest)
name_apart None rest ends = term_apart rest ends
name_apart (Some (One Steps)) rest ends = refl
name_apart (Some (One Pointer)) rest ends = refl
name_apart (Some (One Size)) rest ends = refl
name_apart (Some (One Held)) rest ends = refl
name_apart (Some (One LineEnd)) rest ends = refl
name_apart (Some (One LineStart)) rest ends = refl
name_apart (Some (One LastLength)) rest ends = refl
name_apart (Some (One Typed)) rest ends = refl
name_apart (Some (One EntryHeld)) rest ends = refl
name_apart (Some (Number register)) rest ends = refl
name_apart (Some (Length register)) rest ends = refl
name_apart (Some (Turns begin)) rest ends = refl
name_apart (Some (PushedNumber pair)) rest ends = refl
name_apart (Some (PushedLength pair)) rest ends = refl

pub unit_number : (power : ℕ) (measure : Option ClaimMeasure) (rest : List ℕ) → EndsTerm rest
    → EndsNumber (unit_text power measure ++ rest)
unit_number zero measure rest ends =
    part_number (name_text measure ++ rest) (apart_part (name_text measure ++ rest) (name_apart measure rest ends))
unit_number (suc zero) measure rest ends = refl
unit_number (suc (suc power)) measure rest ends = refl

-- the signs, with which no part begins
abbrev IsSign : ℕ → Type 0
IsSign d = (stops d ≡ true) × (d < 48)

unit_sign : (d power : ℕ) (measure : Option ClaimMeasure) (rest words : List ℕ) → IsSign d → EndsTerm rest
    → unit_text power measure ++ rest ≢ d ∷ words
unit_sign d zero measure rest words sign ends same =
    apart_byte (name_text measure ++ rest) d (name_apart measure rest ends) sign.0 words same
unit_sign d (suc zero) measure rest words sign ends same =
    let is : 78 ≡ d = first_byte same in absurd (omega (arith, is, sign.1))
unit_sign d (suc (suc power)) measure rest words sign ends same =
    let is : 78 ≡ d = first_byte same in absurd (omega (arith, is, sign.1))

-- a number is of digits, and begins with one
pub wide_digits : (n : ℕ) → n < 2 ^ 128 → list_all is_ascii_digit (decimal n) ≡ true
wide_digits n small =
    are_digits (decimal n) (value_model.from (decimal n) (decimal_is_IsNumeral_wide n (omega arith)).0.1)

pub digit_first : (n : ℕ) → n < 2 ^ 128 → (rest : List ℕ) → begins is_ascii_digit (decimal n ++ rest) ≡ true
digit_first n small rest = by_list (decimal n) (decimal_is_IsNumeral_wide n (omega arith)).0.0 (wide_digits n small)
  where
    by_list : (ds : List ℕ) → 0 < length ds → list_all is_ascii_digit ds ≡ true
        → begins is_ascii_digit (ds ++ rest) ≡ true
    by_list [] has each = absurd (omega arith)
    by_list (d ∷ ds) has each = and_left (is_ascii_digit d) (list_all is_ascii_digit ds) each

fraction_sign : (d : ℕ) (f : Fraction) (rest words : List ℕ) → is_ascii_digit d ≡ false → f.numerator < 2 ^ 127
    → fraction_text f ++ rest ≢ d ∷ words
fraction_sign d f rest words other small same =
    let digit = digit_first f.numerator (omega arith) (divisor_text f.divisor ++ rest) in
    let whole = sym (append_assoc (decimal f.numerator) (divisor_text f.divisor) rest) ∙ same in
    clash (is_ascii_digit d) (subst (λ t. begins is_ascii_digit t ≡ true) whole digit) other

factor_sign : (d : ℕ) (f : Fraction) (has : Bool) (unit words : List ℕ) → is_ascii_digit d ≡ false
    → f.numerator < 2 ^ 127 → unit ≢ d ∷ words → factor_text f has ++ unit ≢ d ∷ words
factor_sign d f false unit words sign small other = fraction_sign d f unit words sign small
factor_sign d f true unit words sign small other = by_test (is_one f)
  where
    by_test : (b : Bool) → cond b [] (fraction_text f ++ codes "*") ++ unit ≢ d ∷ words
    by_test true same = other same
    by_test false same =
        fraction_sign d f (codes "*" ++ unit) words sign small
        (sym (append_assoc (fraction_text f) (codes "*") unit) ∙ same)

body_sign : (d : ℕ) (term : ClaimTerm) (rest words : List ℕ) → is_ascii_digit d ≡ false → IsSign d → IsTerm term
    → EndsTerm rest → body_text term ++ rest ≢ d ∷ words
body_sign d term rest words other sign is ends same =
    let unit = unit_text term.power term.measure in
    factor_sign d term.coefficient (has_unit term) (unit ++ rest) words other is.coefficient.numerator
    (unit_sign d term.power term.measure rest words sign ends)
    (sym (append_assoc (factor_text term.coefficient (has_unit term)) unit rest) ∙ same)

-- no term begins with a sign
pub body_minus : (term : ClaimTerm) (rest words : List ℕ) → IsTerm term → EndsTerm rest
    → body_text term ++ rest ≢ 45 ∷ words
body_minus term rest words = body_sign 45 term rest words refl (refl, omega arith)

pub body_plus : (term : ClaimTerm) (rest words : List ℕ) → IsTerm term → EndsTerm rest
    → body_text term ++ rest ≢ 43 ∷ words
body_plus term rest words = body_sign 43 term rest words refl (refl, omega arith)
