-- What giving a value does to the measures.
use Rattle.teco_rows.proofs.Prelude.{◌≡◌, ℕ, ℤ, pos, ◌+ℤ◌, ◌*ℤ◌, List, [], ◌∷◌, length, Some, None, Result, Ok}
use Rattle.teco_rows.proofs.Prelude.{unwrap_or, Option, false, ◌≤ℤ◌, ◌<◌, ◌≤◌, ◌+◌, ◌*◌, slice_index_or, zero, suc}
use Rattle.teco_rows.proofs.Prelude.{negsuc, subst, refl, sym, ap, ◌∙◌, arith, ints, Code, All, cast_unsigned, Term}
use Rattle.teco_rows.proofs.Prelude.{Valuation, value, Level, Operator, Case, VALUE, Of, Given, Unknown, Clause, Sets}
use Rattle.teco_rows.proofs.Prelude.{Wants, Steps, Pointer, Size, Held, LineEnd, LineStart, LastLength, CodeHere}
use Rattle.teco_rows.proofs.Prelude.{CodeBefore, Typed, EntryHeld, Number, Length, Turns, PushedNumber, PushedLength}
use Rattle.teco_rows.proofs.Prelude.{First, Value}
use Rattle.teco_rows.proofs.Prelude.{Measure, One, Each, Outcomes, Places, RowStep, Before, Holds, changed, weight}
use Rattle.teco_rows.proofs.Prelude.{read_with, Point, IsShape, IsLed, IsTrueOf, Describes, behind, measures_of}
use Rattle.teco_rows.proofs.Prelude.{Describe, Succeeds, with_level, is_over, IsBelowZero, IsDivided, IsFromZero}
use Rattle.teco_rows.proofs.Prelude.{Quotients, ◌>>=◌}
use Rattle.std.proofs.Common.{Err}
use Rattle.std.proofs.Common.{◌/◌, neg_ℤ}
use Rattle.std.proofs.Common.{◌-ℤ◌, FitsSigned}
use Rattle.std.proofs.lemmas.Int.{SFits-int_wrap, int_wrap_fits, quot_fits}
use Rattle.std.proofs.lemmas.Nat.{and_le_r}
use Rattle.std.specs.Prelude.{int_div, IfOk}
use Rattle.teco_base.specs.Arithmetic.{and, or, in_32_bits}
use Rattle.teco_model.specs.declared.arguments.Operator.TheVariants.{Plus, Minus, Times, Over, And, Or}
use Rattle.teco_linear.specs.Implied as linear
use Rattle.std.specs.Int.{w32}
use Rattle.teco_model.specs.Arguments.{level_with, value_with, result_of}
use Rattle.teco_rows.specs.declared.levels.TheConstants.{GIVES, MASKS, WRAPS, STEP, NO}
use Rattle.teco_rows.specs.States.{WaitsFor}
use Rattle.teco_rows.specs.Foretold.{Gives, IsAllowed, IsMaskOf, IsMasked, IsOne, IsValued, IsWrapped, Makes}
use Rattle.teco_rows.specs.Foretold.{Values, Wraps, level_of, valued_at}
use Rattle.teco_rows.specs.Foretold.{GivesAny}
use Rattle.teco_rows.specs.Foretold.{AreTwo, Divides, IsDivisor}
use Rattle.teco_rows.proofs.Pending.{level_at, level_same}
use Rattle.teco_rows.proofs.Describing.{led_to, among}

-- The clauses where a number from 0 on is divided by another, and where one below 0 is. They have the divisor, what it
-- is below 0, and one less than it.
abbrev pub from_zero : ℤ → ℤ → ℤ → List Clause
from_zero by minus less =
    STEP ∷ Sets VALUE (pos 0) ((pos 1, Unknown 0), NO, NO, NO)
    ∷ Wants (pos 0) ((pos 1, Given 0), NO, NO, NO)
    ∷ Wants (pos 0) ((pos 1, Unknown 0), NO, NO, NO)
    ∷ Wants (pos 0) ((pos 1, Given 0), (minus, Unknown 0), NO, NO)
    ∷ Wants less ((negsuc 0, Given 0), (by, Unknown 0), NO, NO)
    ∷ []

abbrev pub below_zero : ℤ → ℤ → ℤ → List Clause
below_zero by minus less =
    STEP ∷ Sets VALUE (pos 0) ((pos 1, Unknown 0), NO, NO, NO)
    ∷ Wants (negsuc 0) ((negsuc 0, Given 0), NO, NO, NO)
    ∷ Wants (pos 0) ((negsuc 0, Unknown 0), NO, NO, NO)
    ∷ Wants (pos 0) ((negsuc 0, Given 0), (by, Unknown 0), NO, NO)
    ∷ Wants less ((pos 1, Given 0), (minus, Unknown 0), NO, NO)
    ∷ []

-- a quotient times the divisor is the dividend, but for less than the divisor
parts : (a d : ℕ) → (suc d * (a / suc d) ≤ a) × (a ≤ suc d * (a / suc d) + d)
parts a d = (omega arith, omega arith)

times_back : (d m : ℕ) → pos (suc d) *ℤ neg_ℤ (pos m) ≡ neg_ℤ (pos (suc d * m))
times_back d zero = omega (arith, ints)
times_back d (suc m) = refl

back_back : (d m : ℕ) → negsuc d *ℤ neg_ℤ (pos m) ≡ pos (suc d * m)
back_back d zero = omega (arith, ints)
back_back d (suc m) = refl

down_by_parts : (a d m : ℕ) → suc d * m ≤ a → a ≤ suc d * m + d
    → (pos 0 ≤ℤ pos m) × (pos 0 ≤ℤ (pos a +ℤ negsuc d *ℤ pos m))
    × (pos 0 ≤ℤ (pos (suc d) -ℤ pos 1 +ℤ (pos (suc d) *ℤ pos m -ℤ pos a)))
down_by_parts a d m low high =
    (omega (arith, ints), omega (arith, ints, low, high), omega (arith, ints, low, high))

up_by_parts : (a d m : ℕ) → suc d * m ≤ suc a → suc a ≤ suc d * m + d
    → (neg_ℤ (pos m) ≤ℤ pos 0) × (pos 0 ≤ℤ (pos (suc d) *ℤ neg_ℤ (pos m) -ℤ negsuc a))
    × (pos 0 ≤ℤ (pos (suc d) -ℤ pos 1 +ℤ (negsuc d *ℤ neg_ℤ (pos m) +ℤ negsuc a)))
up_by_parts a d m low high = (
  omega (arith, ints),
  omega (arith, ints, low, high, times_back d m),
  omega (arith, ints, low, high, back_back d m),
)

rounded_down : (x by q : ℤ) → pos 1 ≤ℤ by → pos 0 ≤ℤ x → q ≡ int_div x by
    → (pos 0 ≤ℤ q) × (pos 0 ≤ℤ (x +ℤ neg_ℤ by *ℤ q)) × (pos 0 ≤ℤ (by -ℤ pos 1 +ℤ (by *ℤ q -ℤ x)))
rounded_down (pos a) (pos (suc d)) q h sign e =
    let p = parts a d in rw e (down_by_parts a d (a / suc d) p.0 p.1)
rounded_down (pos a) (pos zero) q h sign e = absurd (omega (arith, ints))
rounded_down (pos a) (negsuc d) q h sign e = absurd (omega (arith, ints))
rounded_down (negsuc a) by q h sign e = absurd (omega (arith, ints))

rounded_up : (x by q : ℤ) → pos 1 ≤ℤ by → x ≤ℤ negsuc 0 → q ≡ int_div x by
    → (q ≤ℤ pos 0) × (pos 0 ≤ℤ (by *ℤ q -ℤ x)) × (pos 0 ≤ℤ (by -ℤ pos 1 +ℤ (neg_ℤ by *ℤ q +ℤ x)))
rounded_up (negsuc a) (pos (suc d)) q h sign e =
    let p = parts (suc a) d in rw e (up_by_parts a d (suc a / suc d) p.0 p.1)
rounded_up (negsuc a) (pos zero) q h sign e = absurd (omega (arith, ints))
rounded_up (negsuc a) (negsuc d) q h sign e = absurd (omega (arith, ints))
rounded_up (pos a) by q h sign e = absurd (omega (arith, ints))

-- with another value at the innermost level, the measures are as before but for that and the steps
module _ (s : Point) (level : Level) (here : Places) (given unknown : ℕ
    → ℤ) (at : here.level ≡ length s.arguments.outer)
    (first : level.first ≡ s.arguments.level.first) where
  before : Before
  before = record { here = here; measures = measures_of s; given = given; unknown = unknown }

  becomes : (x : ℤ) (of : Of) → level.value ≡ Some x → x ≡ weight before of → (m : Measure)
      → measures_of (behind s (with_level s level)) m
      ≡ changed (STEP ∷ Sets VALUE (pos 0) ((pos 1, of), NO, NO, NO) ∷ []) before m (measures_of s m)
  unfolding before
  becomes x of value e (One Steps) = ap Some (omega (arith, ints))
  becomes x of value e (One Pointer) = refl
  becomes x of value e (One Size) = refl
  becomes x of value e (One Held) = refl
  becomes x of value e (One LineEnd) = refl
  becomes x of value e (One LineStart) = refl
  becomes x of value e (One LastLength) = refl
  becomes x of value e (One CodeHere) = refl
  becomes x of value e (One CodeBefore) = refl
  becomes x of value e (One Typed) = refl
  becomes x of value e (One EntryHeld) = refl
  becomes x of value e (Each Number i) = refl
  becomes x of value e (Each Length i) = refl
  becomes x of value e (Each Turns i) = refl
  becomes x of value e (Each PushedNumber i) = refl
  becomes x of value e (Each PushedLength i) = refl
  becomes x of value e (Each First i) = level_same s.arguments.level level s.arguments.outer i (λ l. l.first) first
  becomes x of value e (Each Value i) =
      level_at s.arguments.level level s.arguments.outer here.level i (λ l. l.value) _ at
      (value ∙ ap Some (omega (arith, ints)))

  pub gives_holds : (x : ℤ) → level.value ≡ Some x → given 0 ≡ x
      → Holds GIVES (record { here = here; measures = measures_of s; given = given; unknown = unknown })
      (measures_of (behind s (with_level s level)))
  unfolding before
  gives_holds x worth e = record { met = tt; becomes = becomes x (Given 0) worth (sym e) }

  pub wraps_holds : (x : ℤ) → level.value ≡ Some x → unknown 0 ≡ x → FitsSigned w32 x
      → Holds WRAPS (record { here = here; measures = measures_of s; given = given; unknown = unknown })
      (measures_of (behind s (with_level s level)))
  unfolding before
  wraps_holds x worth e fits = record {
    met = (omega (arith, ints), (omega (arith, ints), tt));
    becomes = becomes x (Unknown 0) worth (sym e);
  }

  pub masks_holds : (x : ℤ) → level.value ≡ Some x → unknown 0 ≡ x → pos 0 ≤ℤ x → x ≤ℤ given 0
      → Holds MASKS (record { here = here; measures = measures_of s; given = given; unknown = unknown })
      (measures_of (behind s (with_level s level)))
  unfolding before
  masks_holds x worth e least most = record {
    met = (omega (arith, ints), (omega (arith, ints), tt));
    becomes = becomes x (Unknown 0) worth (sym e);
  }

  -- a number is divided by another, rounded toward zero
  pub from_zero_holds : (by : ℤ) → level.value ≡ Some (unknown 0) → pos 1 ≤ℤ by → pos 0 ≤ℤ given 0
      → unknown 0 ≡ int_div (given 0) by
      → Holds (from_zero by (neg_ℤ by) (by -ℤ pos 1))
      (record { here = here; measures = measures_of s; given = given; unknown = unknown })
      (measures_of (behind s (with_level s level)))
  unfolding before
  from_zero_holds by worth least sign e =
      let r = rounded_down (given 0) by (unknown 0) least sign e in
      record {
        met = (omega (arith, ints), (omega (arith, ints), (omega (arith, ints), (omega (arith, ints), tt))));
        becomes = becomes (unknown 0) (Unknown 0) worth refl;
      }

  pub below_zero_holds : (by : ℤ) → level.value ≡ Some (unknown 0) → pos 1 ≤ℤ by → given 0 ≤ℤ negsuc 0
      → unknown 0 ≡ int_div (given 0) by
      → Holds (below_zero by (neg_ℤ by) (by -ℤ pos 1))
      (record { here = here; measures = measures_of s; given = given; unknown = unknown })
      (measures_of (behind s (with_level s level)))
  unfolding before
  below_zero_holds by worth least sign e =
      let r = rounded_up (given 0) by (unknown 0) least sign e in
      record {
        met = (omega (arith, ints), (omega (arith, ints), (omega (arith, ints), (omega (arith, ints), tt))));
        becomes = becomes (unknown 0) (Unknown 0) worth refl;
      }

pub is_valued : (case after : Case) (step : RowStep) → step.clauses.now ≡ GIVES
    → ((s : Point) → IsShape case.shape s → step.here.level ≡ length s.arguments.outer) → IsLed case step None after
    → IsValued case (slice_index_or step.given.now 0 []) after
is_valued case after step row at led n v s true_of =
    let x = value (slice_index_or step.given.now 0 []) n v in
    let b = read_with step n v (measures_of s) (λ i. pos 0) in
    let holds = gives_holds s (level_of s x) step.here b.given b.unknown (at s true_of.shape) refl x refl refl in
    led_to n v case after step s (level_of s x) b.unknown led true_of
    (subst (λ r. Holds r b (measures_of (valued_at s x))) (sym row) holds)

pub is_wrapped : (case after : Case) (step : RowStep) → step.clauses.now ≡ WRAPS
    → ((s : Point) → IsShape case.shape s → step.here.level ≡ length s.arguments.outer) → IsLed case step None after
    → IsWrapped case after
is_wrapped case after step row at led n v s x true_of fits =
    let b = read_with step n v (measures_of s) (λ i. x) in
    let holds = wraps_holds s (level_of s x) step.here b.given b.unknown (at s true_of.shape) refl x refl refl fits in
    led_to n v case after step s (level_of s x) b.unknown led true_of
    (subst (λ r. Holds r b (measures_of (valued_at s x))) (sym row) holds)

pub is_masked : (case after : Case) (step : RowStep) → step.clauses.now ≡ MASKS
    → ((s : Point) → IsShape case.shape s → step.here.level ≡ length s.arguments.outer) → IsLed case step None after
    → IsMasked case (slice_index_or step.given.now 0 []) after
is_masked case after step row at led n v s x true_of least most =
    let b = read_with step n v (measures_of s) (λ i. x) in
    let shape = at s true_of.shape in
    let holds = masks_holds s (level_of s x) step.here b.given b.unknown shape refl x refl refl least most in
    led_to n v case after step s (level_of s x) b.unknown led true_of
    (subst (λ r. Holds r b (measures_of (valued_at s x))) (sym row) holds)

pub is_from_zero : (case after : Case) (step : RowStep) (by times minus less : ℤ) → IsLed case step None after
    → step.clauses.now ≡ from_zero times minus less → times ≡ by → minus ≡ neg_ℤ by → less ≡ by -ℤ pos 1 → IsDivisor by
    → ((s : Point) → IsShape case.shape s → step.here.level ≡ length s.arguments.outer)
    → IsDivided IsFromZero by case (slice_index_or step.given.now 0 []) after
is_from_zero case after step by times minus less led row same negated below divisor at n v s true_of sign =
    let x = int_div (value (slice_index_or step.given.now 0 []) n v) by in
    let b = read_with step n v (measures_of s) (λ i. x) in
    let shape = at s true_of.shape in
    let least = divisor.least in
    let holds = from_zero_holds s (level_of s x) step.here b.given b.unknown shape refl by refl least sign refl in
    let numbers = row ∙ ap (λ k. from_zero k minus less) same ∙ ap (λ k. from_zero by k less) negated
    ∙ ap (λ k. from_zero by (neg_ℤ by) k) below in
    led_to n v case after step s (level_of s x) b.unknown led true_of
    (subst (λ r. Holds r b (measures_of (valued_at s x))) (sym numbers) holds)

pub is_below_zero : (case after : Case) (step : RowStep) (by times minus less : ℤ) → IsLed case step None after
    → step.clauses.now ≡ below_zero times minus less → times ≡ by → minus ≡ neg_ℤ by → less ≡ by -ℤ pos 1 → IsDivisor by
    → ((s : Point) → IsShape case.shape s → step.here.level ≡ length s.arguments.outer)
    → IsDivided IsBelowZero by case (slice_index_or step.given.now 0 []) after
is_below_zero case after step by times minus less led row same negated below divisor at n v s true_of sign =
    let x = int_div (value (slice_index_or step.given.now 0 []) n v) by in
    let b = read_with step n v (measures_of s) (λ i. x) in
    let shape = at s true_of.shape in
    let least = divisor.least in
    let holds = below_zero_holds s (level_of s x) step.here b.given b.unknown shape refl by refl least sign refl in
    let numbers = row ∙ ap (λ k. below_zero k minus less) same ∙ ap (λ k. below_zero by k less) negated
    ∙ ap (λ k. below_zero by (neg_ℤ by) k) below in
    led_to n v case after step s (level_of s x) b.unknown led true_of
    (subst (λ r. Holds r b (measures_of (valued_at s x))) (sym numbers) holds)

-- ---- what an operator makes
pub result_fits : (operator : Operator) (x y z : ℤ) → result_of operator x y ≡ Ok z → FitsSigned w32 z
result_fits Plus x y z e = subst (λ r. IfOk r (FitsSigned w32)) e (SFits-int_wrap w32 (x +ℤ y))
result_fits Minus x y z e = subst (λ r. IfOk r (FitsSigned w32)) e (SFits-int_wrap w32 (x -ℤ y))
result_fits Times x y z e = subst (λ r. IfOk r (FitsSigned w32)) e (SFits-int_wrap w32 (x *ℤ y))
result_fits Over x (pos zero) z e = cc
result_fits Over x (pos (suc n)) z e =
    subst (λ r. IfOk r (FitsSigned w32)) e (SFits-int_wrap w32 (int_div x (pos (suc n))))
result_fits Over x (negsuc n) z e =
    subst (λ r. IfOk r (FitsSigned w32)) e (SFits-int_wrap w32 (int_div x (negsuc n)))
result_fits And x y z e = let h : FitsSigned w32 (and x y) =
    omega (arith, ints) in subst (λ r. IfOk r (FitsSigned w32)) e h
result_fits Or x y z e = let h : FitsSigned w32 (or x y) =
    omega (arith, ints) in subst (λ r. IfOk r (FitsSigned w32)) e h

-- a number is given where nothing waits, and where something does
pub given_alone : (level : Level) (x : ℤ) → level.operator ≡ None
    → level_with x level ≡ Ok (record { first = level.first; value = Some x; operator = None })
given_alone level x e =
    ap (λ o. value_with x level.value o >>= (λ given. Ok (record {
      first = level.first;
      value =
          Some given;
      operator = None;
    }))) e

pub given_to : (level : Level) (operator : Operator) (x : ℤ) → level.operator ≡ Some operator
    → level_with x level
    ≡ (result_of operator (unwrap_or level.value (pos 0)) x >>= (λ given. Ok (record {
      first = level.first;
      value =
          Some given;
      operator = None;
    })))
given_to level operator x e =
    ap (λ o. value_with x level.value o >>= (λ given. Ok (record {
      first = level.first;
      value =
          Some given;
      operator = None;
    }))) e

-- one case is there
pub describes_one : (n : ℕ) (conditions : List (List Term)) (after : Case) (all : Outcomes) (t : Point)
    → IsOne conditions after all → Describes n after t → Describe n all t
describes_one n conditions after all t one d = among n all after [] [] t one.cases d

pub gives_alone : (case after : Case) (form : List Term) (conditions : List (List Term)) (all : Outcomes)
    → WaitsFor None case
    → IsValued case form after → IsOne conditions after all → Gives form case all
gives_alone case after form conditions all alone valued one n v s begins =
    subst (Succeeds (λ l. Describe n all (behind s (with_level s l))))
    (sym (given_alone s.arguments.level (value form n v) (alone s begins.true_of.shape)))
    (describes_one n conditions after all _ one (valued n v s begins.true_of))

pub values_one : (case after : Case) (form : List Term) (conditions : List (List Term)) (all : Outcomes)
    → ((n : ℕ) (v : Valuation) → All (linear.Holds n v) conditions → FitsSigned w32 (value form n v))
    → IsValued case form after → IsOne conditions after all → Values form case all
values_one case after form conditions all fits valued one n v s begins = (
  fits n v (subst (All (linear.Holds n v)) one.conditions begins.conditions),
  describes_one n conditions after all _ one (valued n v s begins.true_of),
)

pub gives_made : (case : Case) (left number form : List Term) (operator : Operator) (all : Outcomes)
    → WaitsFor (Some operator) case
    → ((n : ℕ) (v : Valuation) (s : Point) → IsTrueOf n v case s
    → value left n v ≡ unwrap_or s.arguments.level.value (pos 0))
    → Makes left operator number form → Values form case all → Gives number case all
gives_made case left number form operator all waits left_is makes values n v s begins =
    let r = values n v s begins in
    let made = ap (λ x. result_of operator x (value number n v)) (sym (left_is n v s begins.true_of)) ∙ makes n v
    ∙ ap Ok (int_wrap_fits w32 (value form n v) r.0) in
    subst (Succeeds (λ l. Describe n all (behind s (with_level s l))))
    (sym (given_to s.arguments.level operator (value number n v) (waits s begins.true_of.shape)
    ∙ ap (λ z. z >>= (λ given. Ok (record {
      first = s.arguments.level.first;
      value = Some given;
      operator =
          None;
    }))) made))
    r.1

-- a quotient by a known number
pub quotients_two : (case first second : Case) (form : List Term) (by : ℤ) (conditions : List (List Term))
    (all : Outcomes)
    → ((n : ℕ) (v : Valuation) → All (linear.Holds n v) conditions → FitsSigned w32 (value form n v))
    → IsDivided IsFromZero by case form first → IsDivided IsBelowZero by case form second
    → AreTwo conditions first second all → Quotients form by case all
quotients_two case first second form by conditions all fits up down two n v s begins = (
  fits n v (subst (All (linear.Holds n v)) two.conditions begins.conditions),
  signed (value form n v) refl,
) where
  signed : (x : ℤ) → x ≡ value form n v → Describe n all (valued_at s (int_div (value form n v) by))
  signed (pos a) e =
      among n all first [] (second ∷ []) _ two.cases
      (up n v s begins.true_of (subst IsFromZero e (omega (arith, ints))))
  signed (negsuc a) e =
      among n all second (first ∷ []) [] _ two.cases
      (down n v s begins.true_of (subst IsBelowZero e (omega (arith, ints))))

over : (x y : ℤ) → pos 1 ≤ℤ y → result_of Over x y ≡ Ok (in_32_bits (int_div x y))
over x (pos zero) h = absurd (omega (arith, ints))
over x (pos (suc n)) h = refl
over x (negsuc n) h = absurd (omega (arith, ints))

pub gives_quotient : (case : Case) (left number : List Term) (by : ℤ) (operator : Operator) (all : Outcomes)
    → WaitsFor (Some operator) case
    → ((n : ℕ) (v : Valuation) (s : Point) → IsTrueOf n v case s
    → value left n v ≡ unwrap_or s.arguments.level.value (pos 0))
    → Divides operator number by → Quotients left by case all → Gives number case all
gives_quotient case left number by operator all waits left_is divides quotients n v s begins =
    let r = quotients n v s begins in
    let least = divides.divisor.least in
    let fits = quot_fits w32 (value left n v) by r.0 (omega (arith, ints)) in
    let made = ap (λ o. result_of o (unwrap_or s.arguments.level.value (pos 0)) (value number n v)) divides.takes
    ∙ ap (λ x. result_of Over x (value number n v)) (sym (left_is n v s begins.true_of))
    ∙ ap (λ y. result_of Over (value left n v) y) (divides.is n v)
    ∙ over (value left n v) by least
    ∙ ap Ok (int_wrap_fits w32 (int_div (value left n v) by) fits) in
    subst (Succeeds (λ l. Describe n all (behind s (with_level s l))))
    (sym (given_to s.arguments.level operator (value number n v) (waits s begins.true_of.shape)
    ∙ ap (λ z. z >>= (λ given. Ok (level_of s given))) made))
    r.1

pub gives_wrapped : (case : Case) (number : List Term) (operator : Operator) (all : Outcomes)
    → WaitsFor (Some operator) case → Wraps operator number case all → Gives number case all
gives_wrapped case number operator all waits wraps n v s begins =
    subst (Succeeds (λ l. Describe n all (behind s (with_level s l))))
    (sym (given_to s.arguments.level operator (value number n v) (waits s begins.true_of.shape)))
    (passed (result_of operator (unwrap_or s.arguments.level.value (pos 0)) (value number n v))
    (wraps n v s _ begins)) where
      passed : (r : Result ℤ Code) → Succeeds (λ x. Describe n all (valued_at s x)) r
          → Succeeds (λ l. Describe n all (behind s (with_level s l)))
          (r >>= (λ given. Ok (record { first = s.arguments.level.first; value = Some given; operator = None })))
      passed (Ok x) d = d
      passed (Err c) d = d

some_result : (operator : Operator) (x y : ℤ) → IsAllowed operator y → (z : ℤ) × (result_of operator x y ≡ Ok z)
some_result Plus x y h = (_, refl)
some_result Minus x y h = (_, refl)
some_result Times x y h = (_, refl)
some_result Over x (pos zero) h = absurd (omega (arith, ints))
some_result Over x (pos (suc n)) h = (_, refl)
some_result Over x (negsuc n) h = absurd (omega (arith, ints))
some_result And x y h = (_, refl)
some_result Or x y h = (_, refl)

pub wraps_one : (case after : Case) (operator : Operator) (number : List Term) (conditions : List (List Term))
    (all : Outcomes) → ((n : ℕ) (v : Valuation) → All (linear.Holds n v) conditions
    → IsAllowed operator (value number n v))
    → IsWrapped case after → IsOne conditions after all → Wraps operator number case all
wraps_one case after operator number conditions all positive wrapped one n v s left begins =
    let r = some_result operator left (value number n v)
    (positive n v (subst (All (linear.Holds n v)) one.conditions begins.conditions)) in
    subst (Succeeds (λ x. Describe n all (valued_at s x))) (sym r.1)
    (describes_one n conditions after all _ one
    (wrapped n v s r.0 begins.true_of (result_fits operator left (value number n v) r.0 r.1)))

-- what is left of a number by a mask
and_within : (x : ℤ) (k : ℕ) → k < 2147483648 → (pos 0 ≤ℤ and x (pos k)) × (and x (pos k) ≤ℤ pos k)
and_within x k h =
    let low = and_le_r (cast_unsigned w32 x) (cast_unsigned w32 (pos k)) in
    (omega (arith, ints, low), omega (arith, ints, low))

and_mask : (x y : ℤ) → pos 0 ≤ℤ y → y ≤ℤ pos 2147483647 → (pos 0 ≤ℤ and x y) × (and x y ≤ℤ y)
and_mask x (pos k) h l = and_within x k (omega (arith, ints))
and_mask x (negsuc k) h l = absurd (omega (arith, ints))

pub masks_one : (case after : Case) (operator : Operator) (number mask : List Term)
    (conditions : List (List Term)) (all : Outcomes)
    → IsMaskOf operator number → ((n : ℕ) (v : Valuation) → value mask n v ≡ value number n v)
    → IsMasked case mask after → IsOne conditions after all → Wraps operator number case all
masks_one case after operator number mask conditions all is same masked one =
    subst (λ o. Wraps o number case all) (sym is.takes) (λ n v s left begins.
    let k = and_mask left (value number n v) (is.least n v) (is.most n v) in
    describes_one n conditions after all _ one
    (masked n v s (and left (value number n v)) begins.true_of k.0 (subst (λ y. and left (value number n v) ≤ℤ y)
    (sym (same n v)) k.1)))

-- any number is given, where nothing is divided by it
abbrev IsLevel : ℕ → Outcomes → Point → Result Level Code → Type 0
IsLevel n all s made = Succeeds (λ level. Describe n all (behind s (with_level s level))) made

pub gives_any : (case made : Case) (conditions : List (List Term)) (all : Outcomes)
    → ((s : Point) → IsShape case.shape s → is_over s.arguments.level.operator ≡ false)
    → IsWrapped case made → IsOne conditions made all → GivesAny case all
gives_any case made conditions all divides wrapped one n v s x true_of fits =
    by s.arguments.level.operator refl (divides s true_of.shape) where
      wraps : (operator : Operator) → IsAllowed operator x → s.arguments.level.operator ≡ Some operator
          → IsLevel n all s (level_with x s.arguments.level)
      wraps operator allowed e =
          let left = unwrap_or s.arguments.level.value (pos 0) in
          let r = some_result operator left x allowed in
          subst (IsLevel n all s) (sym (given_to s.arguments.level operator x e
          ∙ ap (λ z. z >>= (λ given. Ok (level_of s given))) r.1))
          (describes_one n conditions made all _ one
          (wrapped n v s r.0 true_of (result_fits operator left x r.0 r.1)))

      by : (o : Option Operator) → s.arguments.level.operator ≡ o → is_over o ≡ false
          → IsLevel n all s (level_with x s.arguments.level)
      by None e h =
          subst (IsLevel n all s) (sym (given_alone s.arguments.level x e))
          (describes_one n conditions made all _ one (wrapped n v s x true_of fits))
      by (Some Plus) e h = wraps Plus tt e
      by (Some Minus) e h = wraps Minus tt e
      by (Some Times) e h = wraps Times tt e
      by (Some Over) e h = absurd cc
      by (Some And) e h = wraps And tt e
      by (Some Or) e h = wraps Or tt e
