-- Rows and cases by the range of a number.
use Rattle.teco_flow_outcomes.proofs.Prelude.{◌≡◌, ℕ, suc, zero, ℤ, pos, negsuc, ◌≤ℤ◌, ◌≤◌, List, [], ◌∷◌, ◌++◌, Bool}
use Rattle.teco_flow_outcomes.proofs.Prelude.{true, false, Some, None, ◌⊎◌, inl, inr, refl, sym, ap, subst, ◌∙◌, arith}
use Rattle.teco_flow_outcomes.proofs.Prelude.{ints, holds, leaves, Test, Clause, NumberRange, From, UpTo, Ranges, IsIn}
use Rattle.teco_flow_outcomes.proofs.Prelude.{IsInOne, Says}
use Rattle.std.proofs.Common.{neg_ℤ, ◌<◌}
use Rattle.std.proofs.Common.{not}
use Rattle.std.proofs.lemmas.Bool.Decides.{nat_tests}
use Rattle.teco_base.specs.Bytes.{is_letter, is_symbol, is_digit, is_letter_or_digit, is_lower, is_upper}
use Rattle.teco_model.specs.Condition.{is_code_of, is_negative, is_positive, is_zero}
use Rattle.teco_model.specs.declared.kind.Test.TheVariants as test
use Rattle.teco_rows.specs.declared.row.Clause.TheVariants.{Wants}
use Rattle.teco_rows.specs.declared.row.Of.TheVariants.{Given}
use Rattle.teco_rows.specs.declared.levels.TheConstants.{NO}
use Rattle.teco_rows.proofs.Lines.{above_or}
use Rattle.teco_flow_outcomes.specs.declared.ranges.NumberRange.TheVariants.{Any, Between}

-- ---- tests
zero_is : (x : ℤ) → is_zero x ≡ true → (pos 0 ≤ℤ x) × (x ≤ℤ pos 0)
zero_is (pos zero) e = (omega (arith, ints), omega (arith, ints))
zero_is (pos (suc n)) e = absurd cc
zero_is (negsuc n) e = absurd cc

zero_not : (x : ℤ) → is_zero x ≡ false → (pos 1 ≤ℤ x) ⊎ (x ≤ℤ negsuc 0)
zero_not (pos zero) e = absurd cc
zero_not (pos (suc n)) e = inl (omega (arith, ints))
zero_not (negsuc n) e = inr (omega (arith, ints))

not_is : (b c : Bool) → not b ≡ c → b ≡ not c
not_is true true e = absurd cc
not_is true false e = refl
not_is false true e = refl
not_is false false e = absurd cc

negative_is : (x : ℤ) → is_negative x ≡ true → x ≤ℤ negsuc 0
negative_is (pos n) e = absurd cc
negative_is (negsuc n) e = omega (arith, ints)

negative_not : (x : ℤ) → is_negative x ≡ false → pos 0 ≤ℤ x
negative_not (pos n) e = omega (arith, ints)
negative_not (negsuc n) e = absurd cc

positive_is : (x : ℤ) → is_positive x ≡ true → pos 1 ≤ℤ x
positive_is (pos zero) e = absurd cc
positive_is (pos (suc n)) e = omega (arith, ints)
positive_is (negsuc n) e = absurd cc

positive_not : (x : ℤ) → is_positive x ≡ false → x ≤ℤ pos 0
positive_not (pos zero) e = omega (arith, ints)
positive_not (pos (suc n)) e = absurd cc
positive_not (negsuc n) e = omega (arith, ints)

-- the code of a character of a class that lies between two bytes
coded : (class : ℕ → Bool) (least most : ℕ) → ((c : ℕ) → class c ≡ true → (least ≤ c) × (c ≤ most)) → (x : ℤ)
    → is_code_of class x ≡ true → (pos least ≤ℤ x) × (x ≤ℤ pos most)
coded class least most within (pos c) e = let h = within c e in (omega (arith, ints, h.0), omega (arith, ints, h.1))
coded class least most within (negsuc c) e = absurd cc

letters : (c : ℕ) → is_letter c ≡ true → (65 ≤ c) × (c ≤ 122)
letters c e = (grind (arith, nat_tests), grind (arith, nat_tests))

symbols : (c : ℕ) → is_symbol c ≡ true → (36 ≤ c) × (c ≤ 122)
symbols c e = (grind (arith, nat_tests), grind (arith, nat_tests))

digits : (c : ℕ) → is_digit c ≡ true → (48 ≤ c) × (c ≤ 57)
digits c e = (grind (arith, nat_tests), grind (arith, nat_tests))

no_digit : (c : ℕ) → is_digit c ≡ false → 48 ≤ c → c ≤ 57 → ⊥
no_digit c e low high = grind (arith, nat_tests)

digit_not : (x : ℤ) → is_code_of is_digit x ≡ false → (x ≤ℤ pos 47) ⊎ (pos 58 ≤ℤ x)
digit_not (pos c) e = beside (above_or c 47) (above_or c 57) where
  beside : (c ≤ 47) ⊎ (47 < c) → (c ≤ 57) ⊎ (57 < c) → (pos c ≤ℤ pos 47) ⊎ (pos 58 ≤ℤ pos c)
  beside (inl low) high = inl (omega (arith, ints, low))
  beside (inr above) (inl below) = absurd (no_digit c e (omega (arith, above)) below)
  beside (inr above) (inr high) = inr (omega (arith, ints, high))
digit_not (negsuc c) e = inl (omega (arith, ints))

letters_or_digits : (c : ℕ) → is_letter_or_digit c ≡ true → (48 ≤ c) × (c ≤ 122)
letters_or_digits c e = (grind (arith, nat_tests), grind (arith, nat_tests))

lower : (c : ℕ) → is_lower c ≡ true → (97 ≤ c) × (c ≤ 122)
lower c e = (grind (arith, nat_tests), grind (arith, nat_tests))

upper : (c : ℕ) → is_upper c ≡ true → (65 ≤ c) × (c ≤ 90)
upper c e = (grind (arith, nat_tests), grind (arith, nat_tests))

-- ---- rows
abbrev from_row : ℤ → List Clause
from_row least = Wants (neg_ℤ least) ((pos 1, Given 0), NO, NO, NO) ∷ []

abbrev up_to_row : ℤ → List Clause
up_to_row most = Wants most ((negsuc 0, Given 0), NO, NO, NO) ∷ []

pub says_any : Says Any []
says_any b h = (tt, λ m x. refl)

pub says_from : (least : ℤ) → Says (From least) (from_row least)
says_from least b h = ((omega (arith, ints, h), tt), λ m x. refl)

pub says_up_to : (most : ℤ) → Says (UpTo most) (up_to_row most)
says_up_to most b h = ((omega (arith, ints, h), tt), λ m x. refl)

pub says_between : (least most : ℤ) → Says (Between least most) (from_row least ++ up_to_row most)
says_between least most b h = ((omega (arith, ints, h.0), (omega (arith, ints, h.1), tt)), λ m x. refl)

pub says_by : (range other : NumberRange) (row said : List Clause) → range ≡ other → row ≡ said → Says other said
    → Says range row
says_by range other row said e f h =
    subst (λ r. Says r row) (sym e) (subst (Says other) (sym f) h)

-- ---- the ranges where a test holds, and where it fails
pub in_only : (asked other : Test) (range : NumberRange) (answer : Bool) (ranges : Ranges) → asked ≡ other
    → ranges ≡ record { one = range; other = None } → ((x : ℤ) → holds other x ≡ answer → IsIn range x) → (x : ℤ)
    → holds asked x ≡ answer → IsInOne ranges x
in_only asked other range answer ranges e f within x h =
    subst (λ r. IsInOne r x) (sym f) (inl (within x (ap (λ t. holds t x) (sym e) ∙ h)))

pub in_both : (asked other : Test) (one second : NumberRange) (answer : Bool) (ranges : Ranges) → asked ≡ other
    → ranges ≡ record { one = one; other = Some second }
    → ((x : ℤ) → holds other x ≡ answer → IsIn one x ⊎ IsIn second x) → (x : ℤ)
    → holds asked x ≡ answer → IsInOne ranges x
in_both asked other one second answer ranges e f within x h =
    subst (λ r. IsInOne r x) (sym f) (within x (ap (λ t. holds t x) (sym e) ∙ h))

pub holds_zero : (x : ℤ) → holds test.Zero x ≡ true → IsIn (Between (pos 0) (pos 0)) x
holds_zero x h = zero_is x h

pub holds_not_zero : (x : ℤ) → holds test.NotZero x ≡ true → IsIn (From (pos 1)) x ⊎ IsIn (UpTo (negsuc 0)) x
holds_not_zero x h = zero_not x (not_is (is_zero x) true h)

pub holds_negative : (x : ℤ) → holds test.Negative x ≡ true → IsIn (UpTo (negsuc 0)) x
holds_negative x h = negative_is x h

pub holds_positive : (x : ℤ) → holds test.Positive x ≡ true → IsIn (From (pos 1)) x
holds_positive x h = positive_is x h

pub holds_letter : (x : ℤ) → holds test.Letter x ≡ true → IsIn (Between (pos 65) (pos 122)) x
holds_letter x h = coded is_letter 65 122 letters x h

pub holds_symbol : (x : ℤ) → holds test.Symbol x ≡ true → IsIn (Between (pos 36) (pos 122)) x
holds_symbol x h = coded is_symbol 36 122 symbols x h

pub holds_digit : (x : ℤ) → holds test.Digit x ≡ true → IsIn (Between (pos 48) (pos 57)) x
holds_digit x h = coded is_digit 48 57 digits x h

pub holds_letter_or_digit : (x : ℤ) → holds test.LetterOrDigit x ≡ true → IsIn (Between (pos 48) (pos 122)) x
holds_letter_or_digit x h = coded is_letter_or_digit 48 122 letters_or_digits x h

pub holds_lower : (x : ℤ) → holds test.Lower x ≡ true → IsIn (Between (pos 97) (pos 122)) x
holds_lower x h = coded is_lower 97 122 lower x h

pub holds_upper : (x : ℤ) → holds test.Upper x ≡ true → IsIn (Between (pos 65) (pos 90)) x
holds_upper x h = coded is_upper 65 90 upper x h

-- where a test for zero fails the other holds
pub zero_fails : (asked : Test) (ranges : Ranges) → asked ≡ test.Zero
    → ((x : ℤ) → holds test.NotZero x ≡ true → IsInOne ranges x) → (x : ℤ) → holds asked x ≡ false → IsInOne ranges x
zero_fails asked ranges e within x h = within x (ap not (ap (λ t. holds t x) (sym e) ∙ h))

pub not_zero_fails : (asked : Test) (ranges : Ranges) → asked ≡ test.NotZero
    → ((x : ℤ) → holds test.Zero x ≡ true → IsInOne ranges x) → (x : ℤ) → holds asked x ≡ false → IsInOne ranges x
not_zero_fails asked ranges e within x h = within x (not_is (is_zero x) false (ap (λ t. holds t x) (sym e) ∙ h))

pub negative_fails : (x : ℤ) → holds test.Negative x ≡ false → IsIn (From (pos 0)) x
negative_fails x h = negative_not x h

pub positive_fails : (x : ℤ) → holds test.Positive x ≡ false → IsIn (UpTo (pos 0)) x
positive_fails x h = positive_not x h

pub digit_fails : (x : ℤ) → holds test.Digit x ≡ false → IsIn (UpTo (pos 47)) x ⊎ IsIn (From (pos 58)) x
digit_fails x h = digit_not x h

-- ---- where ; stays, and where it leaves
pub stays_in : (colons : ℕ) (x : ℤ) → leaves colons x ≡ false → (colons ≡ 0 → x ≤ℤ negsuc 0) × (1 ≤ colons → pos 0 ≤ℤ x)
stays_in zero x h = (λ e. negative_is x (not_is (is_negative x) false h), λ k. absurd (omega arith))
stays_in (suc n) x h = (λ e. absurd (omega arith), λ k. negative_not x h)

pub leaves_in : (colons : ℕ) (x : ℤ) → leaves colons x ≡ true → (colons ≡ 0 → pos 0 ≤ℤ x) × (1 ≤ colons → x ≤ℤ negsuc 0)
leaves_in zero x h = (λ e. negative_not x (not_is (is_negative x) true h), λ k. absurd (omega arith))
leaves_in (suc n) x h = (λ e. absurd (omega arith), λ k. negative_is x h)
