-- The state at the entry is as the cut point there says.
use Rattle.teco_paths.proofs.Prelude.{◌≡◌, ℕ, zero, suc, ◌+◌, ◌-◌, ◌*◌, ◌/◌, ◌%◌, ◌<◌, ◌≤◌, refl, sym, ap, ◌∙◌, arith}
use Rattle.teco_paths.proofs.Prelude.{cases_order, inl, inr, subst, ◌⊎◌}
use Rattle.teco_paths.proofs.Prelude.{List, [], ◌∷◌, length, Bool, true, false, Option, Some, None, nat_lt, slice_get}
use Rattle.teco_paths.proofs.Prelude.{◌==◌, if◌then◌else◌, ℤ, pos, unwrap_or, ◌+ℤ◌, ◌-ℤ◌, ◌≤ℤ◌, is_some}
use Rattle.teco_paths.proofs.Prelude.{option_and_then, ltb-true, ltb-false, ints, All, REGISTERS, Term, Valuation}
use Rattle.teco_paths.proofs.Prelude.{value, ArgumentRange, IsAsked, Pair, text_in, Family, Number, Length, Turns}
use Rattle.teco_paths.proofs.Prelude.{PushedNumber, PushedLength, First, Value, Measure, One, Each, place, Point}
use Rattle.teco_paths.proofs.Prelude.{from_end, measures_of, number_of, length_of, CutState, AreThere, IsEntered}
use Rattle.teco_paths.proofs.Prelude.{IsEntryClaim, IsEntryCut, is_there, used_lengths, family_of, measure_of}
use Rattle.teco_paths.proofs.Prelude.{numbers_of, single_of, steps_before}
use Rattle.std.proofs.Common.{eqb-true}
use Rattle.std.specs.Prelude.{option_map}
use Rattle.std.specs.Prelude.{slice_index_or, ◌&&◌}
use Rattle.std.proofs.lemmas.List.{get_or_past}
use Rattle.std.proofs.lemmas.List.Sums.{sum_by-cons}
use Rattle.std.specs.List.{sum_by}
use Rattle.teco_model.specs.Arguments.{Arguments}
use Rattle.teco_model.specs.Registers.{empty_pair, held_length_of_pair}
use Rattle.teco_model.specs.declared.arguments.Level.{Level}
use Rattle.teco_rows.specs.States.{levels, operators_of}
use Rattle.teco_paths.specs.Entry.{IsEntryBound, family_is_there}
use Rattle.teco_paths.specs.Entry.{length_if}
use Rattle.teco_paths.proofs.Symbols.{measure_again}
use Rattle.teco_verifier.specs.facts.Argument.{arguments_given}

-- ---- which measures are there
is_got : {X : Type 0} (xs : List X) (i : ℕ) → i < length xs → is_some (slice_get xs i) ≡ true
is_got [] i l = absurd (omega arith)
is_got (x ∷ xs) zero l = refl
is_got (x ∷ xs) (suc i) l = is_got xs i (omega (arith, l))

not_got : {X : Type 0} (xs : List X) (i : ℕ) → length xs ≤ i → is_some (slice_get xs i) ≡ false
not_got [] i l = refl
not_got (x ∷ xs) zero l = absurd (omega (arith, l))
not_got (x ∷ xs) (suc i) l = not_got xs i (omega (arith, l))

some_mapped : (f : Pair → ℤ) (o : Option Pair) → is_some (option_map f o) ≡ is_some o
some_mapped f None = refl
some_mapped f (Some x) = refl

of_pair : (pairs : List Pair) (i : ℕ) → length pairs ≡ REGISTERS → is_some (slice_get pairs i) ≡ nat_lt i REGISTERS
of_pair pairs i e = by (nat_lt i REGISTERS) refl
  where
    by : (b : Bool) → nat_lt i REGISTERS ≡ b → is_some (slice_get pairs i) ≡ b
    by true l = is_got pairs i (omega (arith, e, ltb-true i REGISTERS l))
    by false l = not_got pairs i (omega (arith, e, ltb-false i REGISTERS l))

none_from_end : {X : Type 0} (xs : List X) (i : ℕ) → length xs ≤ i → from_end xs i ≡ None
none_from_end [] i l = refl
none_from_end (x ∷ xs) i l = by (length xs == i) refl (none_from_end xs i (omega (arith, l)))
  where
    by : (b : Bool) → (length xs == i) ≡ b → from_end xs i ≡ None → (if b then Some x else from_end xs i) ≡ None
    by true e on = absurd (omega (arith, l, eqb-true (length xs) i e))
    by false e on = on

at_level : (level : Level) (f : Level → Option ℤ) (i : ℕ)
    → option_and_then f (from_end (level ∷ []) i) ≡ (if 0 == i then f level else None)
at_level level f i = by (0 == i)
  where
    by : (b : Bool) → option_and_then f (if b then Some level else None) ≡ (if b then f level else None)
    by true = refl
    by false = refl

none_either : (b : Bool) (x : Option ℤ) → x ≡ None → is_some (if b then x else None) ≡ false
none_either true x e = ap is_some e
none_either false x e = refl

some_either : (b : Bool) (x : ℤ) → is_some (if b then Some x else None) ≡ b
some_either true x = refl
some_either false x = refl

first_of : (given : Option ℕ) (i : ℕ)
    → is_some (option_and_then (λ (level : Level). level.first) (from_end (levels (arguments_given given)) i)) ≡ false
first_of None i =
    ap is_some (at_level (arguments_given None).level (λ (level : Level). level.first) i)
    ∙ none_either (0 == i) None refl
first_of (Some n) i =
    ap is_some (at_level (arguments_given (Some n)).level (λ (level : Level). level.first) i)
    ∙ none_either (0 == i) None refl

value_none : (i : ℕ)
    → is_some (option_and_then (λ (level : Level). level.value) (from_end (levels (arguments_given None)) i)) ≡ false
value_none i =
    ap is_some (at_level (arguments_given None).level (λ (level : Level). level.value) i)
    ∙ none_either (0 == i) None refl

value_some : (n i : ℕ)
    → is_some (option_and_then (λ (level : Level). level.value) (from_end (levels (arguments_given (Some n))) i)) ≡
    (0 == i)
value_some n i =
    ap is_some (at_level (arguments_given (Some n)).level (λ (level : Level). level.value) i)
    ∙ some_either (0 == i) (pos n)

value_of : (argument : Option ArgumentRange) (given : Option ℕ) (i : ℕ) → IsAsked argument given
    → is_some (option_and_then (λ (level : Level). level.value) (from_end (levels (arguments_given given)) i))
    ≡ (is_some argument && (0 == i))
value_of None None i asked = value_none i
value_of (Some range) (Some n) i asked = value_some n i
value_of argument given i asked = absurd (grind arith)

-- the argument is the value at the only level
given_is : (given : ℕ) (s : Point) → s.arguments ≡ arguments_given (Some given) → numbers_of s 17 ≡ pos given
given_is given s e =
    ap (λ (a : Arguments). unwrap_or (option_and_then (λ (level : Level). level.value) (from_end (levels a) 0)) (pos 0))
    e

-- ---- the texts of registers are held
pub lengths_more : (used : List Bool) (v : Valuation) (k : ℕ)
    → used_lengths used v (k + 1) ≡ used_lengths used v k +ℤ length_if (slice_index_or used (12 + 7 * k) false) v k
lengths_more used v k = let z : k + 1 ≡ suc k = omega arith in rw z refl

abbrev texts_in : List Pair → ℕ → ℤ
texts_in pairs zero = pos 0
texts_in pairs (suc k) = texts_in pairs k +ℤ unwrap_or (length_of (slice_get pairs k)) (pos 0)

one_length : (s : Point) (k : ℕ)
    → numbers_of s (12 + 7 * k) ≡ unwrap_or (length_of (slice_get s.kept.registers.pairs k)) (pos 0)
one_length s k =
    ap (λ m. unwrap_or (measures_of s m) (pos 0)) (ap measure_of (omega arith) ∙ measure_again (Each Length k))

no_length_below : (o : Option Pair) → pos 0 ≤ℤ unwrap_or (length_of o) (pos 0)
no_length_below None = omega (arith, ints)
no_length_below (Some p) = omega (arith, ints)

one_more_used : (s : Point) (k : ℕ) (sum : ℤ) (b : Bool) → sum ≤ℤ texts_in s.kept.registers.pairs k
    → (sum +ℤ length_if b (numbers_of s) k) ≤ℤ texts_in s.kept.registers.pairs (suc k)
one_more_used s k sum true most = omega (arith, ints, one_length s k, most)
one_more_used s k sum false most = omega (arith, ints, no_length_below (slice_get s.kept.registers.pairs k), most)

used_most : (used : List Bool) (s : Point) (k : ℕ)
    → used_lengths used (numbers_of s) k ≤ℤ texts_in s.kept.registers.pairs k
used_most used s zero = omega (arith, ints)
used_most used s (suc k) = one_more_used s k _ (slice_index_or used (12 + 7 * k) false) (used_most used s k)

text_of_pair : (pairs : List Pair) (k : ℕ)
    → unwrap_or (length_of (slice_get pairs k)) (pos 0) ≡ pos (length (slice_index_or pairs k empty_pair).text)
text_of_pair [] k = refl
text_of_pair (p ∷ pairs) zero = refl
text_of_pair (p ∷ pairs) (suc k) = text_of_pair pairs k

-- the number of a length's place is how long the text of the register is
long_is : (s : Point) (k : ℕ) → numbers_of s (12 + 7 * k) ≡ pos (length (text_in k s.kept))
long_is s k = one_length s k ∙ text_of_pair s.kept.registers.pairs k

texts_of_more : (p : Pair) (pairs : List Pair) (k : ℕ)
    → texts_in (p ∷ pairs) (suc k) ≡ pos (length p.text) +ℤ texts_in pairs k
texts_of_more p pairs zero = omega (arith, ints)
texts_of_more p pairs (suc k) = let rest = texts_of_more p pairs k in omega (arith, ints, rest)

texts_most : (pairs : List Pair) (k : ℕ) → k ≡ length pairs → texts_in pairs k ≡ pos (sum_by held_length_of_pair pairs)
texts_most [] zero e = refl
texts_most [] (suc k) e = absurd (omega (arith, e))
texts_most (p ∷ pairs) zero e = absurd (omega (arith, e))
texts_most (p ∷ pairs) (suc k) e =
    let rest = texts_most pairs k (omega (arith, e)) in
    omega (arith, ints, texts_of_more p pairs k, rest, sum_by-cons held_length_of_pair p pairs)

module _ (lengths : List (Option ℕ)) (argument : Option ArgumentRange) (n : ℕ) (given : Option ℕ) (s : Point)
    (e : IsEntered lengths argument n given s) where
  there : (m : Measure) → is_some (measures_of s m) ≡ is_there (is_some argument) m
  there (One single) = refl
  there (Each Number i) = some_mapped (λ p. p.number) (slice_get s.kept.registers.pairs i)
      ∙ of_pair s.kept.registers.pairs i e.whole.count
  there (Each Length i) =
      some_mapped (λ p. pos (length p.text)) (slice_get s.kept.registers.pairs i)
      ∙ of_pair s.kept.registers.pairs i e.whole.count
  there (Each Turns i) = ap (λ loops. is_some (option_and_then (λ loop. option_map pos loop.turns) (from_end loops i)))
      e.loops
  there (Each PushedNumber i) =
      ap (λ o. is_some (number_of o))
      (none_from_end s.kept.registers.stack (s.origin.pushes + i) (omega (arith, e.pushes)))
  there (Each PushedLength i) =
      ap (λ o. is_some (length_of o))
      (none_from_end s.kept.registers.stack (s.origin.pushes + i) (omega (arith, e.pushes)))
  there (Each First i) =
      ap (λ (a : Arguments). is_some (option_and_then (λ (level : Level). level.first) (from_end (levels a) i)))
      e.arguments
      ∙ first_of given i
  there (Each Value i) =
      ap (λ (a : Arguments). is_some (option_and_then (λ (level : Level). level.value) (from_end (levels a) i)))
      e.arguments
      ∙ value_of argument given i e.asked

  pub has_present : (present : List Bool) → AreThere (is_some argument) present → (m : Measure)
      → is_some (measures_of s m) ≡ slice_index_or present (place m) false
  has_present present are m =
      there m ∙ sym (are (place m) ∙ ap (is_there (is_some argument)) (measure_again m))

-- ---- the claims
module _ (lengths : List (Option ℕ)) (argument : Option ArgumentRange) (symbol least most : ℕ) (form : List Term)
    (between : IsEntryBound lengths argument symbol least most) where
  pub least_claim : ((n : ℕ) (v : Valuation) → value form n v ≡ v symbol -ℤ pos least)
      → IsEntryClaim lengths argument form
  least_claim is n given s e = omega (arith, ints, is n (numbers_of s), (between n given s e).0)

  pub most_claim : ((n : ℕ) (v : Valuation) → value form n v ≡ pos most -ℤ v symbol)
      → IsEntryClaim lengths argument form
  most_claim is n given s e = omega (arith, ints, is n (numbers_of s), (between n given s e).1)

module _ (lengths : List (Option ℕ)) (argument : Option ArgumentRange) where
  pub steps_between : (done : ℕ) → done ≡ steps_before argument → IsEntryBound lengths argument 0 done done
  steps_between done is n given s e = (omega (arith, ints, is, e.steps), omega (arith, ints, is, e.steps))

  pub typed_between : IsEntryBound lengths argument 9 0 0
  typed_between n given s e = (omega (arith, ints, e.typed), omega (arith, ints, e.typed))

  -- what is held is what was held at the entry, no less and no more
  pub no_less_held : (form : List Term) → ((n : ℕ) (v : Valuation) → value form n v ≡ v 3 -ℤ v 10)
      → IsEntryClaim lengths argument form
  no_less_held form is n given s e = omega (arith, ints, is n (numbers_of s), e.all)

  pub no_more_held : (form : List Term) → ((n : ℕ) (v : Valuation) → value form n v ≡ v 10 -ℤ v 3)
      → IsEntryClaim lengths argument form
  no_more_held form is n given s e = omega (arith, ints, is n (numbers_of s), e.all)

  pub length_between : (register long : ℕ) → slice_index_or lengths register None ≡ Some long
      → IsEntryBound lengths argument (12 + 7 * register) long long
  length_between register long known n given s e =
      let held = long_is s register in
      let same = e.loaded register long known in
      (omega (arith, ints, held, same), omega (arith, ints, held, same))

  pub most_held_claim : (form : List Term) (used : List Bool)
      → ((n : ℕ) (v : Valuation) → value form n v ≡ (pos n -ℤ v 3) -ℤ used_lengths used v REGISTERS)
      → IsEntryClaim lengths argument form
  most_held_claim form used is n given s e =
      omega (
        arith,
        ints,
        is n (numbers_of s),
        e.held,
        used_most used s REGISTERS,
        texts_most s.kept.registers.pairs REGISTERS (sym e.whole.count),
      )

module _ (lengths : List (Option ℕ)) (range : ArgumentRange) (low high : ℕ) (low_is : low ≡ range.low)
    (high_is : high ≡ range.high) where
  range_between : IsEntryBound lengths (Some range) 17 low high
  range_between n None s e = absurd e.asked
  range_between n (Some given) s e =
      let same = given_is given s e.arguments in
      (omega (arith, ints, same, e.asked.low, low_is), omega (arith, ints, same, e.asked.high, high_is))

  pub argument_between : (argument : Option ArgumentRange) → argument ≡ Some range
      → IsEntryBound lengths argument 17 low high
  argument_between argument is = subst (λ a. IsEntryBound lengths a 17 low high) (sym is) range_between

-- ---- all of it
waits_none : (given : Option ℕ) (a : Arguments) → a ≡ arguments_given given → None ∷ [] ≡ operators_of (levels a)
waits_none None a e = ap (λ (a : Arguments). operators_of (levels a)) (sym e)
waits_none (Some n) a e = ap (λ (a : Arguments). operators_of (levels a)) (sym e)

pub is_entry_cut : (lengths : List (Option ℕ)) (argument : Option ArgumentRange) (cut : CutState)
    → cut.shape.operators.items ≡ None ∷ []
    → cut.shape.iterations ≡ 0 → cut.shape.pushes ≡ 0 → AreThere (is_some argument) cut.present.items
    → All (IsEntryClaim lengths argument) cut.claims.items → IsEntryCut lengths argument cut
is_entry_cut lengths argument cut operators iterations pushes present claims n given s e = record {
  shape = record {
    operators = operators ∙ waits_none given s.arguments e.arguments;
    iterations = iterations ∙ sym (ap length e.loops);
    pushes = omega (arith, pushes, e.pushes);
  };
  present = has_present lengths argument n given s e cut.present.items present;
  claims = λ k d l. claims k d l n given s e;
}

-- ---- no measure has a place behind those
not_few : (i : ℕ) → REGISTERS ≤ i → nat_lt i REGISTERS ≡ false
not_few i l = by (nat_lt i REGISTERS) refl
  where
    by : (b : Bool) → nat_lt i REGISTERS ≡ b → b ≡ false
    by true e = absurd (omega (arith, l, ltb-true i REGISTERS e))
    by false e = refl

and_false : (has : Bool) → (has && false) ≡ false
and_false true = refl
and_false false = refl

not_first : (has : Bool) (i : ℕ) → REGISTERS ≤ i → (has && (0 == i)) ≡ false
not_first has i l = by (0 == i) refl
  where
    by : (b : Bool) → (0 == i) ≡ b → (has && b) ≡ false
    by true e = absurd (omega (arith, l, eqb-true 0 i e))
    by false e = and_false has

not_family : (has : Bool) (f : Family) (i : ℕ) → REGISTERS ≤ i → family_is_there has f i ≡ false
not_family has Number i l = not_few i l
not_family has Length i l = not_few i l
not_family has Turns i l = refl
not_family has PushedNumber i l = refl
not_family has PushedLength i l = refl
not_family has First i l = refl
not_family has Value i l = not_first has i l

pub not_there : (has : Bool) (k : ℕ) → 11 + 7 * REGISTERS ≤ k → is_there has (measure_of k) ≡ false
not_there has k l = by (nat_lt k 11) refl
  where
    by : (b : Bool) → nat_lt k 11 ≡ b
        → is_there has (if b then One (single_of k) else Each (family_of ((k - 11) % 7)) ((k - 11) / 7)) ≡ false
    by true e = absurd (omega (arith, l, ltb-true k 11 e))
    by false e = not_family has (family_of ((k - 11) % 7)) ((k - 11) / 7) (omega (arith, l))

-- marks that are right in all places that there are
pub all_there : (has : Bool) (all : List Bool) (place : ℕ) → 11 + 7 * REGISTERS ≤ place → length all ≡ place
    → ((k : ℕ) → k < place → slice_index_or all k false ≡ is_there has (measure_of k)) → AreThere has all
all_there has all place behind count same k = by (cases_order k place)
  where
    beyond : place ≤ k → slice_index_or all k false ≡ is_there has (measure_of k)
    beyond l =
        get_or_past all k false (omega (arith, l, count)) ∙ sym (not_there has k (omega (arith, l, behind)))

    by : (k ≡ place) ⊎ ((k < place) ⊎ (place < k)) → slice_index_or all k false ≡ is_there has (measure_of k)
    by (inl e) = beyond (omega (arith, e))
    by (inr (inl less)) = same k less
    by (inr (inr more)) = beyond (omega (arith, more))
