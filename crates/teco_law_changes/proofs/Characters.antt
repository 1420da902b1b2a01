-- What is known of the characters at the pointer and before it is so behind each element.
use Rattle.std.proofs.Common.{◌≡◌, ◌≢◌, ℕ, ℤ, pos, negsuc, zero, suc, ◌+◌, ◌-◌, ◌-ℤ◌, ◌<◌, ◌≤◌, List, [], ◌∷◌, refl}
use Rattle.std.proofs.Common.{sym, ap}
use Rattle.std.proofs.Common.{◌∙◌, subst, arith, eqb-true, inl, inr, not, ◌==◌, Option, Some, None, Result, Ok, Err}
use Rattle.std.proofs.Common.{Bool, true, false}
use Rattle.std.proofs.lemmas.Bool.{le-leb, leb-true}
use Rattle.std.proofs.lemmas.Int.{int_wrap_fits, ints}
use Rattle.std.specs.Int.{int_wrap, is_in_range, w32}
use Rattle.std.specs.List.{AllByRecursion}
use Rattle.std.specs.Option.{option_or}
use Rattle.std.specs.Prelude.{◌⊎◌, ◌&&◌, ◌||◌, FitsSigned, IfOk, IsTrue, ⊤, max, min, nat_le, option_map, slice_get}
use Rattle.std.specs.Prelude.{unwrap_or, if◌then◌else◌}
use Rattle.teco_base.specs.Arithmetic.{sub}
use Rattle.teco_base.specs.Bytes.{is_among, is_digit, is_letter, is_letter_or_digit, is_lower, is_symbol, is_upper}
use Rattle.teco_base.specs.Results.{◌>>=◌}
use Rattle.teco_base.specs.declared.code.Code.{Code as Fault}
use Rattle.teco_changes.specs.Arguments.{IsSo}
use Rattle.teco_changes.specs.Characters as near
use Rattle.teco_changes.specs.Characters.{AreWithin, IsWithin, between, character_there, code_there, unknown}
use Rattle.teco_changes.specs.Nearby as nearby
use Rattle.teco_changes.specs.Nearby.{HasValue, IsPending}
use Rattle.teco_changes.specs.declared.argument.NumericArgument.{NumericArgument}
use Rattle.teco_changes.specs.declared.argument.NumericArgument.TheVariants as known
use Rattle.teco_changes.specs.declared.argument.Pending.{Pending}
use Rattle.teco_changes.specs.declared.argument.Pending.TheVariants.{Anything, Asked, AskedLess, AskedMinus, Empty}
use Rattle.teco_changes.specs.declared.argument.Pending.TheVariants.{Length}
use Rattle.teco_changes.specs.declared.argument.Pending.TheVariants.{Negative, Number, Place}
use Rattle.teco_changes.specs.declared.argument.Side.{Side}
use Rattle.teco_changes.specs.declared.argument.Side.TheVariants.{At, Before}
use Rattle.teco_changes.specs.declared.argument.Sign.{Sign}
use Rattle.teco_changes.specs.declared.argument.Sign.TheVariants.{Above, Below, Equal, NotAbove, NotBelow}
use Rattle.teco_changes.specs.declared.change.Characters.{Characters}
use Rattle.teco_changes.specs.declared.change.Range.{Range}
use Rattle.teco_law_changes.proofs.Results.{onward, onward_any, onward_made}
use Rattle.teco_law_changes.proofs.Sharper.{HasNumber, exactly_is_number, value_is_number}
use Rattle.teco_law_changes.proofs.Steps.{anything}
use Rattle.teco_law_changes.proofs.Staying.{IsSame, as_it_was, character_same, stacked, stores_same, typings}
use Rattle.teco_law_changes.proofs.Taking.{ends_so, taken_is, value_is}
use Rattle.teco_law_runs.specs.Steps.{is_long}
use Rattle.teco_law_runs.specs.Turns.{Took, Went}
use Rattle.teco_law_runs.specs.Was.{ElementWas, OutcomeWas}
use Rattle.teco_model.specs.Arguments.{Arguments, arguments_of, level_with, levels_after_answer, levels_after_taking}
use Rattle.teco_model.specs.Arguments.{with_level}
use Rattle.teco_model.specs.Condition.{holds, is_code_of, is_negative, is_positive, is_zero}
use Rattle.teco_model.specs.Effect.{Effect}
use Rattle.teco_model.specs.Element.{Element}
use Rattle.teco_model.specs.Flow.{Turn, leaves, turn_of}
use Rattle.teco_model.specs.Going.{After, Again, Along, Behind, Course, Into, NoFile, Quit, Refused, Reply, on_editor}
use Rattle.teco_model.specs.Going.{settle, settled}
use Rattle.teco_model.specs.Outside.{append_reply, page_reply}
use Rattle.teco_model.specs.Query.{query, query_with}
use Rattle.teco_model.specs.State.{Kept, Next, State, World}
use Rattle.teco_model.specs.Step.{after_query_with, execution, level_with_value, levels_after, value_for}
unfoldable use Rattle.teco_model.specs.Step.{reply_of}
use Rattle.teco_model.specs.Storage.{stack}
use Rattle.teco_model.specs.declared.arguments.Level.{Level}
use Rattle.teco_model.specs.declared.arguments.Taken.{Taken}
use Rattle.teco_model.specs.declared.kind.Command.{Command}
use Rattle.teco_model.specs.declared.kind.Command.TheVariants as command
use Rattle.teco_model.specs.declared.kind.Flow.{Flow}
use Rattle.teco_model.specs.declared.kind.Flow.TheVariants as flow
use Rattle.teco_model.specs.declared.kind.Kind.{Kind}
use Rattle.teco_model.specs.declared.kind.Kind.TheVariants as kind
use Rattle.teco_model.specs.declared.kind.Page.{Page}
use Rattle.teco_model.specs.declared.kind.Page.TheVariants as page
use Rattle.teco_model.specs.declared.kind.Query.{Query}
use Rattle.teco_model.specs.declared.kind.Query.TheVariants as query_kind
use Rattle.teco_model.specs.declared.kind.Storage.{Storage}
use Rattle.teco_model.specs.declared.kind.Storage.TheVariants as storage_kind
use Rattle.teco_model.specs.declared.kind.Test.{Test}
use Rattle.teco_model.specs.declared.kind.Test.TheVariants as test
use Rattle.teco_model.specs.laws.Whole.{IsWhole, IsWholeState}

-- ---- numbers and ranges
both_are : (s t : Bool) → s ≡ true → t ≡ true → (s && t) ≡ true
both_are true t e f = f
both_are false t e f = absurd cc

both_of : (s t : Bool) → (s && t) ≡ true → (s ≡ true) × (t ≡ true)
both_of true t e = (refl, e)
both_of false t e = absurd cc

either_of : (s t : Bool) → (s || t) ≡ true → (s ≡ true) ⊎ (t ≡ true)
either_of true t e = inl refl
either_of false t e = inr e

pub inside : (first last b : ℕ) → first ≤ b → b ≤ last → IsTrue (is_in_range first last b)
inside first last b low high =
    both_are (nat_le first b) (nat_le b last) (le-leb first b low) (le-leb b last high)

pub bounds : (first last b : ℕ) → IsTrue (is_in_range first last b) → (first ≤ b) × (b ≤ last)
bounds first last b is =
    let both = both_of (nat_le first b) (nat_le b last) is in (leb-true first b both.0, leb-true b last both.1)

negative : (z : ℤ) → is_negative z ≡ true → (k : ℕ) × (z ≡ negsuc k)
negative (pos n) e = absurd cc
negative (negsuc n) e = (n, refl)

not_negative : (z : ℤ) → is_negative z ≡ false → (k : ℕ) × (z ≡ pos k)
not_negative (pos n) e = (n, refl)
not_negative (negsuc n) e = absurd cc

positive : (z : ℤ) → is_positive z ≡ true → (k : ℕ) × (z ≡ pos (suc k))
positive (pos zero) e = absurd cc
positive (pos (suc n)) e = (n, refl)
positive (negsuc n) e = absurd cc

not_positive : (z : ℤ) → is_positive z ≡ false → (z ≡ pos 0) ⊎ ((k : ℕ) × (z ≡ negsuc k))
not_positive (pos zero) e = inl refl
not_positive (pos (suc n)) e = absurd cc
not_positive (negsuc n) e = inr (n, refl)

abbrev Has : Sign → ℤ → Type 0
Has Equal z = z ≡ pos 0
Has Below z = is_negative z ≡ true
Has NotBelow z = is_negative z ≡ false
Has Above z = is_positive z ≡ true
Has NotAbove z = is_positive z ≡ false

abbrev Is : Range → ℕ → Type 0
Is range b = IsTrue (is_in_range range.first range.last b)

at_most : (b m : ℕ) → (pos b -ℤ pos m ≡ pos 0) ⊎ ((k : ℕ) × (pos b -ℤ pos m ≡ negsuc k)) → b ≤ m
at_most b m (inl e) = omega (arith, ints, e)
at_most b m (inr e) = let f = e.1 in omega (arith, ints, f)

range_is : (sign : Sign) (b m : ℕ) → b < 256 → m ≤ 255 → Has sign (pos b -ℤ pos m) → Is (near.range_by sign m) b
range_is Equal b m small few h = inside m m b (omega (arith, ints, h)) (omega (arith, ints, h))
range_is Below b m small few h =
    let n = negative (pos b -ℤ pos m) h in
    let e = n.1 in inside 0 (m - 1) b (omega arith) (omega (arith, ints, e))
range_is NotBelow b m small few h =
    let n = not_negative (pos b -ℤ pos m) h in
    let e = n.1 in inside m 255 b (omega (arith, ints, e)) (omega (arith, small))
range_is Above b m small few h =
    let n = positive (pos b -ℤ pos m) h in
    let e = n.1 in inside (min (m + 1) 255) 255 b (omega (arith, ints, e)) (omega (arith, small))
range_is NotAbove b m small few h =
    inside 0 m b (omega arith) (at_most b m (not_positive (pos b -ℤ pos m) h))

-- ---- the characters of a text
each_at : (P : ℕ → Type 0) (text : List ℕ) (i b : ℕ) → AllByRecursion P text → slice_get text i ≡ Some b → P b
each_at P [] i b each at = absurd cc
each_at P (c ∷ text) zero b each at = subst P (let same : c ≡ b = cc in same) each.0
each_at P (c ∷ text) (suc i) b each at = each_at P text i b each.1 at

small_before : (text : List ℕ) (n b : ℕ) → AllByRecursion (λ c. c < 256) text
    → near.character_before text n ≡ Some b → b < 256
small_before text zero b each at = absurd cc
small_before text (suc n) b each at = each_at (λ c. c < 256) text n b each at

small_there : (side : Side) (kept : Kept) (b : ℕ) → IsWhole kept → character_there side kept ≡ Some b → b < 256
small_there At kept b whole at = each_at (λ c. c < 256) kept.text kept.pointer b whole.bytes at
small_there Before kept b whole at = small_before kept.text kept.pointer b whole.bytes at

code_is : (side : Side) (kept : Kept) (b : ℕ) → character_there side kept ≡ Some b → code_there side kept ≡ pos b
code_is side kept b at = ap (λ c. unwrap_or (option_map pos c) (negsuc 0)) at

less_is : (b m : ℕ) → b < 256 → m ≤ 255 → sub (pos b) (pos m) ≡ pos b -ℤ pos m
less_is b m small few =
    int_wrap_fits w32 (pos b -ℤ pos m)
    (let fits : FitsSigned w32 (pos b -ℤ pos m) = omega (arith, ints, small, few) in fits)

less_none : (b : ℕ) → pos b ≡ pos b -ℤ pos 0
less_none b = omega (arith, ints)

within_same : (range : Option Range) (c d : Option ℕ) → d ≡ c → IsWithin range c → IsWithin range d
within_same range c d same is = subst (λ x. IsWithin range x) (sym same) is

pub are_same : (characters : Characters) (old new : Kept) → IsSame old new → AreWithin characters old
    → AreWithin characters new
are_same characters old new same are = (
  within_same characters.at (character_there At old) (character_there At new) (character_same At old new same) are.0,
  within_same characters.before (character_there Before old) (character_there Before new)
      (character_same Before old new same) are.1,
)

kept_same : (t : Bool) (characters : Characters) (old new : Kept) → (t ≡ true → IsSame old new)
    → AreWithin characters old → AreWithin (nearby.kept_where t characters) new
kept_same true characters old new same are = are_same characters old new (same refl) are
kept_same false characters old new same are = (tt, tt)

-- ---- tests
is_of : (P : ℕ → Bool) (b : ℕ) (n : ℤ) → n ≡ pos b → is_code_of P n ≡ true → P b ≡ true
is_of P b n same h = subst (λ m. is_code_of P m ≡ true) same h

wider : (first last f l b : ℕ) → f ≤ first → last ≤ l → IsTrue (is_in_range first last b)
    → IsTrue (is_in_range f l b)
wider first last f l b low high is =
    let both = bounds first last b is in
    let first_is = both.0 in
    let last_is = both.1 in
    inside f l b (omega (arith, low, first_is)) (omega (arith, high, last_is))

letter_is : (f l b : ℕ) → f ≤ 65 → 122 ≤ l → is_letter b ≡ true → IsTrue (is_in_range f l b)
letter_is f l b low high h = by (either_of (is_upper b) (is_lower b) h)
  where
    by : (is_upper b ≡ true) ⊎ (is_lower b ≡ true) → IsTrue (is_in_range f l b)
    by (inl upper) = wider 65 90 f l b low (omega (arith, high)) upper
    by (inr lower) = wider 97 122 f l b (omega (arith, low)) high lower

word_is : (f l b : ℕ) → f ≤ 48 → 122 ≤ l → is_letter_or_digit b ≡ true → IsTrue (is_in_range f l b)
word_is f l b low high h = by (either_of (is_letter b) (is_digit b) h)
  where
    by : (is_letter b ≡ true) ⊎ (is_digit b ≡ true) → IsTrue (is_in_range f l b)
    by (inl letter) = letter_is f l b (omega (arith, low)) high letter
    by (inr digit) = wider 48 57 f l b low (omega (arith, high)) digit

symbol_is : (b : ℕ) → is_symbol b ≡ true → IsTrue (is_in_range 36 122 b)
symbol_is b h = by (either_of (is_letter_or_digit b) (is_among b (46 ∷ 95 ∷ 36 ∷ [])) h)
  where
    one : (n : ℕ) → 36 ≤ n → n ≤ 122 → (b == n) ≡ true → IsTrue (is_in_range 36 122 b)
    one n low high e =
        let same = eqb-true b n e in inside 36 122 b (omega (arith, low, same)) (omega (arith, high, same))

    others : ((b == 95) ≡ true) ⊎ ((b == 36) ≡ true) → IsTrue (is_in_range 36 122 b)
    others (inl e) = one 95 (omega arith) (omega arith) e
    others (inr e) = one 36 (omega arith) (omega arith) e

    sign : ((b == 46) ≡ true) ⊎ (((b == 95) || (b == 36)) ≡ true) → IsTrue (is_in_range 36 122 b)
    sign (inl e) = one 46 (omega arith) (omega arith) e
    sign (inr e) = others (either_of (b == 95) (b == 36) e)

    by : (is_letter_or_digit b ≡ true) ⊎ (is_among b (46 ∷ 95 ∷ 36 ∷ []) ≡ true) → IsTrue (is_in_range 36 122 b)
    by (inl word) = word_is 36 122 b (omega arith) (omega arith) word
    by (inr e) = sign (either_of (b == 46) ((b == 95) || (b == 36)) e)

module _ (kept : Kept) (whole : IsWhole kept) (side : Side) where
  -- a range is so of the character there
  abbrev Tells : Option Range → Type 0
  Tells range = IsWithin range (character_there side kept)

  abbrev Character : ℕ → Type 0
  Character b = character_there side kept ≡ Some b

  -- the number of which a test was asked
  abbrev IsCode : ℤ → Type 0
  IsCode n = n ≡ code_there side kept

  abbrev IsLess : ℤ → ℤ → Type 0
  IsLess n m = n ≡ sub (code_there side kept) m

  by_sign : (sign : Sign) (n : ℤ) (m : ℕ) → m ≤ 255 → Has sign n
      → ((b : ℕ) → b < 256 → Character b → n ≡ pos b -ℤ pos m) → Tells (Some (near.range_by sign m))
  by_sign sign n m few has is b at =
      let small = small_there side kept b whole at in
      range_is sign b m small few (subst (Has sign) (is b small at) has)

  code_less : (n : ℤ) → IsCode n → (b : ℕ) → b < 256 → Character b → n ≡ pos b -ℤ pos 0
  code_less n is b small at = is ∙ code_is side kept b at ∙ less_none b

  number_less : (n : ℤ) (m : ℕ) → m ≤ 255 → IsLess n (pos m) → (b : ℕ) → b < 256 → Character b
      → n ≡ pos b -ℤ pos m
  number_less n m few is b small at =
      is ∙ ap (λ c. sub c (pos m)) (code_is side kept b at) ∙ less_is b m small few

  of_code : (sign : Sign) (n : ℤ) → Has sign n → IsCode n → Tells (near.range_less sign (pos 0))
  of_code sign n has is = by_sign sign n 0 (omega arith) has (code_less n is)

  few_where : (t : Bool) (sign : Sign) (n : ℤ) (m : ℕ) → nat_le m 255 ≡ t → Has sign n → IsLess n (pos m)
      → Tells (option_map (near.range_by sign) (if t then Some m else None))
  few_where false sign n m e has is = tt
  few_where true sign n m e has is =
      let few = leb-true m 255 e in by_sign sign n m few has (number_less n m few is)

  of_less : (sign : Sign) (n m : ℤ) → Has sign n → IsLess n m → Tells (near.range_less sign m)
  of_less sign n (pos m) has is = few_where (nat_le m 255) sign n m refl has is
  of_less sign n (negsuc m) has is = tt

  -- by the sign that a test tells
  module _ (n : ℤ) (told : Option Sign) (has : (sign : Sign) → told ≡ Some sign → Has sign n) where
    code_by : (o : Option Sign) → told ≡ o → IsCode n → Tells (near.range_less_by o (pos 0))
    code_by None e is = tt
    code_by (Some sign) e is = of_code sign n (has sign e) is

    less_by : (o : Option Sign) (m : ℤ) → told ≡ o → IsLess n m → Tells (near.range_less_by o m)
    less_by None m e is = tt
    less_by (Some sign) m e is = of_less sign n m (has sign e) is

  class_or : (range other : Option Range) → Tells range → Tells other → Tells (option_or range other)
  class_or None other first second = second
  class_or (Some range) other first second = first

  -- a class that holds of the code
  module _ (n : ℤ) (is : IsCode n) where
    of_class : (P : ℕ → Bool) (first last : ℕ) → is_code_of P n ≡ true
        → ((b : ℕ) → P b ≡ true → IsTrue (is_in_range first last b)) → Tells (Some (between first last))
    of_class P first last h all b at = all b (is_of P b n (is ∙ code_is side kept b at) h)

    class_holds : (t : Test) → holds t n ≡ true → Tells (near.class_range t zero)
    class_holds test.Letter h = of_class is_letter 65 122 h (λ b l. letter_is 65 122 b (omega arith) (omega arith) l)
    class_holds test.Symbol h = of_class is_symbol 36 122 h symbol_is
    class_holds test.Digit h = of_class is_digit 48 57 h (λ b d. d)
    class_holds test.LetterOrDigit h =
        of_class is_letter_or_digit 48 122 h (λ b w. word_is 48 122 b (omega arith) (omega arith) w)
    class_holds test.Lower h = of_class is_lower 97 122 h (λ b l. l)
    class_holds test.Upper h = of_class is_upper 65 90 h (λ b u. u)
    class_holds test.Zero h = tt
    class_holds test.NotZero h = tt
    class_holds test.Negative h = tt
    class_holds test.Positive h = tt

    class_fails : (t : Test) → Tells (near.class_range t 1)
    class_fails test.Letter = tt
    class_fails test.Symbol = tt
    class_fails test.Digit = tt
    class_fails test.LetterOrDigit = tt
    class_fails test.Lower = tt
    class_fails test.Upper = tt
    class_fails test.Zero = tt
    class_fails test.NotZero = tt
    class_fails test.Negative = tt
    class_fails test.Positive = tt

zero_is : (n : ℤ) → is_zero n ≡ true → n ≡ pos 0
zero_is (pos zero) e = refl
zero_is (pos (suc n)) e = absurd cc
zero_is (negsuc n) e = absurd cc

not_false : (t : Bool) → not t ≡ false → t ≡ true
not_false true e = refl
not_false false e = absurd cc

not_true : (t : Bool) → not t ≡ true → t ≡ false
not_true true e = absurd cc
not_true false e = refl

one_sign : (a b : Sign) (n : ℤ) → ◌≡◌ {A = Option Sign} (Some a) (Some b) → Has a n → Has b n
one_sign a b n e has = subst (λ x. Has x n) (let same : a ≡ b = cc in same) has

no_sign : (b : Sign) (n : ℤ) → ◌≡◌ {A = Option Sign} None (Some b) → Has b n
no_sign b n e = absurd cc

sign_holds : (t : Test) (n : ℤ) → holds t n ≡ true → (sign : Sign) → near.sign_by t zero ≡ Some sign → Has sign n
sign_holds test.Zero n h sign e = one_sign Equal sign n e (zero_is n h)
sign_holds test.Negative n h sign e = one_sign Below sign n e h
sign_holds test.Positive n h sign e = one_sign Above sign n e h
sign_holds test.NotZero n h sign e = no_sign sign n e
sign_holds test.Letter n h sign e = no_sign sign n e
sign_holds test.Symbol n h sign e = no_sign sign n e
sign_holds test.Digit n h sign e = no_sign sign n e
sign_holds test.LetterOrDigit n h sign e = no_sign sign n e
sign_holds test.Lower n h sign e = no_sign sign n e
sign_holds test.Upper n h sign e = no_sign sign n e

sign_fails : (t : Test) (n : ℤ) → holds t n ≡ false → (sign : Sign) → near.sign_by t 1 ≡ Some sign → Has sign n
sign_fails test.NotZero n h sign e = one_sign Equal sign n e (zero_is n (not_false (is_zero n) h))
sign_fails test.Negative n h sign e = one_sign NotBelow sign n e h
sign_fails test.Positive n h sign e = one_sign NotAbove sign n e h
sign_fails test.Zero n h sign e = no_sign sign n e
sign_fails test.Letter n h sign e = no_sign sign n e
sign_fails test.Symbol n h sign e = no_sign sign n e
sign_fails test.Digit n h sign e = no_sign sign n e
sign_fails test.LetterOrDigit n h sign e = no_sign sign n e
sign_fails test.Lower n h sign e = no_sign sign n e
sign_fails test.Upper n h sign e = no_sign sign n e

sign_stays : (colons : ℕ) (n : ℤ) → leaves colons n ≡ false → Has (near.sign_leaving colons zero) n
sign_stays zero n h = not_false (is_negative n) h
sign_stays (suc colons) n h = h

sign_leaves : (colons : ℕ) (n : ℤ) → leaves colons n ≡ true → Has (near.sign_leaving colons 1) n
sign_leaves zero n h = not_true (is_negative n) h
sign_leaves (suc colons) n h = h

-- the number that is taken is the one that is pending
value_has : (n v : ℤ) (level : Level) (taken : Taken) → HasValue v level → arguments_of level ≡ Ok taken
    → taken.value ≡ Some n → n ≡ v
value_has n v level taken has took is =
    let same : ◌≡◌ {A = Option ℤ} (Some n) (Some v) =
    sym is ∙ value_is level taken took (Some v) (ends_so level (Some v) has.0 has.1) in cc

-- ---- flow
module _ (s : State) (e : Element) (whole : IsWholeState s) (pending : Pending) (characters : Characters)
    (waits : IsPending pending s.arguments.level s.world.kept) (are : AreWithin characters s.world.kept) where
  abbrev Now : Characters → Type 0
  Now c = AreWithin c s.world.kept

  met : (known : Option Range) (range : Range) (c : Option ℕ) → IsWithin known c → IsWithin (Some range) c
      → IsWithin (near.range_met known range) c
  met None range c first second = second
  met (Some other) range c first second = λ b at.
      let one = bounds other.first other.last b (first b at) in
      let two = bounds range.first range.last b (second b at) in
      let low = one.0 in
      let high = one.1 in
      let under = two.0 in
      let over = two.1 in
      inside (max other.first range.first) (min other.last range.last) b
      (omega (arith, low, under)) (omega (arith, high, over))

  on_side : (side : Side) (range : Option Range) → IsWithin range (character_there side s.world.kept)
      → Now (near.narrowed (Asked side) range characters)
  on_side side None is = are
  on_side At (Some range) is = (met characters.at range (character_there At s.world.kept) are.0 is, are.1)
  on_side Before (Some range) is =
      (are.0, met characters.before range (character_there Before s.world.kept) are.1 is)

  on_less : (side : Side) (m : ℤ) (range : Option Range) → Now (near.narrowed (Asked side) range characters)
      → Now (near.narrowed (AskedLess side m) range characters)
  on_less side m None is = is
  on_less side m (Some range) is = is

  module _ (n : ℤ) (took : Took s.arguments (Some n)) where
    number_is : (v : ℤ) → HasValue v s.arguments.level → n ≡ v
    number_is v has = value_has n v s.arguments.level took.taken has took.took took.value_is

    -- of a test
    tested : (t : Test) (way : ℕ) (p : Pending) → IsPending p s.arguments.level s.world.kept
        → ((side : Side) → n ≡ code_there side s.world.kept
        → IsWithin (near.class_range t way) (character_there side s.world.kept))
        → ((sign : Sign) → near.sign_by t way ≡ Some sign → Has sign n)
        → Now (near.narrowed p (near.range_asked (flow.Test t) e.colons way p) characters)
    tested t way (Asked side) is class has =
        on_side side (near.range_of_code t way)
        (class_or s.world.kept whole.world.kept side (near.class_range t way)
        (near.range_less_by (near.sign_by t way) (pos 0))
        (class side (number_is (code_there side s.world.kept) is))
        (code_by s.world.kept whole.world.kept side n (near.sign_by t way) has (near.sign_by t way) refl
        (number_is (code_there side s.world.kept) is)))
    tested t way (AskedLess side m) is class has =
        on_less side m (near.range_less_by (near.sign_by t way) m)
        (on_side side (near.range_less_by (near.sign_by t way) m)
        (less_by s.world.kept whole.world.kept side n (near.sign_by t way) has (near.sign_by t way) m refl
        (number_is (sub (code_there side s.world.kept) m) is)))
    tested t way Anything is class has = are
    tested t way Empty is class has = are
    tested t way Negative is class has = are
    tested t way (Number m) is class has = are
    tested t way Length is class has = are
    tested t way Place is class has = are
    tested t way (AskedMinus side) is class has = are

    -- of ;
    left_by : (way : ℕ) (p : Pending) → IsPending p s.arguments.level s.world.kept
        → Has (near.sign_leaving e.colons way) n
        → Now (near.narrowed p (near.range_asked flow.Leave e.colons way p) characters)
    left_by way (Asked side) is has =
        on_side side (near.range_less (near.sign_leaving e.colons way) (pos 0))
        (of_code s.world.kept whole.world.kept side (near.sign_leaving e.colons way) n has
        (number_is (code_there side s.world.kept) is))
    left_by way (AskedLess side m) is has =
        on_less side m (near.range_less (near.sign_leaving e.colons way) m)
        (on_side side (near.range_less (near.sign_leaving e.colons way) m)
        (of_less s.world.kept whole.world.kept side (near.sign_leaving e.colons way) n m has
        (number_is (sub (code_there side s.world.kept) m) is)))
    left_by way Anything is has = are
    left_by way Empty is has = are
    left_by way Negative is has = are
    left_by way (Number m) is has = are
    left_by way Length is has = are
    left_by way Place is has = are
    left_by way (AskedMinus side) is has = are

  by_flow : (f : Flow) (way : ℕ) (turn : Turn) → Went f way e s.arguments s.frames.running turn
      → Now (near.narrowed pending (near.range_asked f e.colons way pending) characters)
  by_flow (flow.Test t) zero turn w =
      tested w.n w.took t zero pending waits
      (λ side is. class_holds s.world.kept whole.world.kept side w.n is t w.true_here)
      (sign_holds t w.n w.true_here)
  by_flow (flow.Test t) (suc zero) turn w =
      tested w.n w.took t 1 pending waits (λ side is. class_fails s.world.kept whole.world.kept side w.n is t)
      (sign_fails t w.n w.false_here)
  by_flow (flow.Test t) (suc (suc way)) turn w = absurd w
  by_flow flow.Leave zero turn w = left_by w.n w.took zero pending waits (sign_stays e.colons w.n w.stays)
  by_flow flow.Leave (suc zero) turn w = left_by w.n w.took 1 pending waits (sign_leaves e.colons w.n w.leaves)
  by_flow flow.Leave (suc (suc way)) turn w = absurd w
  by_flow flow.Iterate way turn w = are
  by_flow flow.EndTurn way turn w = are
  by_flow flow.Otherwise way turn w = are
  by_flow flow.GoTo way turn w = are
  by_flow flow.EndTest way turn w = are
  by_flow flow.Comment way turn w = are
  by_flow (flow.GoAhead g) way turn w = are

-- ---- elements that leave the buffer
module _ (s : State) (e : Element) where
  abbrev Same : Kept → Type 0
  Same kept = IsSame s.world.kept kept

  abbrev SameBy : Bool → Kept → Type 0
  SameBy t kept = t ≡ true → Same kept

  never : (r : Result Reply Fault) → IfOk r (λ reply. SameBy false reply.world.kept)
  never (Ok reply) = λ e. absurd cc
  never (Err c) = tt

  editor : (t : Bool) (r : Result After Fault) → IfOk r (λ done. SameBy t done.kept)
      → IfOk (on_editor s.left s.world r) (λ reply. SameBy t reply.world.kept)
  editor t r i = onward_made (λ (done : After). SameBy t done.kept) (λ (reply : Reply). SameBy t reply.world.kept) r
      _ i (λ done same. same)

  levels_same : (t : Bool) (r : Result Arguments Fault)
      → IfOk (r >>= λ levels. Ok (record { kept = s.world.kept; arguments = levels }))
      (λ (done : After). SameBy t done.kept)
  levels_same t r = onward_any (λ (done : After). SameBy t done.kept) r _ (λ levels given is. as_it_was s.world.kept)

  queried : (q : Query) (colons : ℕ) → SameBy (nearby.leaves_query q) (query q colons s.world.kept).kept
  queried (query_kind.Number r) zero is = as_it_was s.world.kept
  queried (query_kind.Number r) (suc colons) is = as_it_was s.world.kept
  queried query_kind.Mode colons is = as_it_was s.world.kept
  queried query_kind.Conversion colons is = absurd cc

  effects : (t : Bool) (r : Result Effect Fault) → (t ≡ true → IfOk r (λ effect. Same effect.kept))
      → IfOk r (λ effect. SameBy t effect.kept)
  effects true (Ok effect) same = λ is. same refl
  effects false (Ok effect) same = λ is. absurd cc
  effects t (Err c) same = tt

  queried_with : (q : Query) (n : ℤ)
      → IfOk (query_with q n s.world.kept) (λ effect. SameBy (nearby.leaves_query q) effect.kept)
  queried_with (query_kind.Number r) n = λ is. as_it_was s.world.kept
  queried_with query_kind.Mode n = λ is. record { text = refl; pointer = refl; long = refl }
  queried_with query_kind.Conversion n = effects false (query_with query_kind.Conversion n s.world.kept)
      (λ is. absurd cc)

  asked : (q : Query) (o : Option ℤ)
      → IfOk (after_query_with q e.colons o s.world.kept s.arguments)
      (λ (done : After). SameBy (nearby.leaves_query q) done.kept)
  asked q None =
      onward_any (λ (done : After). SameBy (nearby.leaves_query q) done.kept)
      (with_level s.arguments (level_with (query q e.colons s.world.kept).value s.arguments.level)) _
      (λ levels given. queried q e.colons)
  asked q (Some n) =
      onward (λ (effect : Effect). SameBy (nearby.leaves_query q) effect.kept)
      (λ (done : After). SameBy (nearby.leaves_query q) done.kept) (query_with q n s.world.kept) _ (queried_with q n)
      (λ effect same. same)

  stored : (x : Storage) (taken : Taken) (colons : ℕ) → e.colons ≡ colons → nearby.is_no_text x colons ≡ true
      → IfOk (execution (command.Storage x) e taken s.world.kept) (λ effect. Same effect.kept)
  stored x taken colons same is = stores_same s.world.kept x e taken
      (subst (λ n. nearby.is_no_text x n ≡ true) (sym same) is)

  commanded : (c : Command) (taken : Taken) → nearby.leaves_command c e.colons ≡ true
      → IfOk (execution c e taken s.world.kept) (λ effect. Same effect.kept)
  commanded (command.Typing t) taken is = typings s.world.kept t e taken
  commanded (command.Storage x) taken is = stored x taken e.colons refl is
  commanded (command.Motion m) taken is = absurd cc
  commanded (command.Deletion unit) taken is = absurd cc
  commanded (command.Insertion i) taken is = absurd cc

  character_given : (value : Option ℤ) → value ≢ None
      → IfOk (append_reply value s.left (levels_after_taking s.arguments) s.world)
      (λ reply. SameBy true reply.world.kept)
  character_given None some = absurd (some refl)
  character_given (Some n) some = λ is. as_it_was s.world.kept

  characters_given : HasNumber s.arguments.level
      → IfOk (page_reply page.Append s.left s.arguments s.world) (λ reply. SameBy true reply.world.kept)
  characters_given number =
      onward_any (λ (reply : Reply). SameBy true reply.world.kept) (arguments_of s.arguments.level) _ (λ taken there.
      character_given taken.value (λ none. number (taken_is s.arguments.level taken there ∙ ap Ok none)))

  paged : (p : Page) (argument : NumericArgument) → (is_long (kind.Page p) ≡ false → IsSo argument s.arguments.level)
      → IfOk (page_reply p s.left s.arguments s.world)
      (λ reply. SameBy (nearby.leaves_page p argument) reply.world.kept)
  paged page.Append known.Number so = characters_given (so refl)
  paged page.Append known.Value so = characters_given (value_is_number s.arguments.level (so refl).0 (so refl).1)
  paged page.Append (known.Exactly n) so =
      characters_given (exactly_is_number n s.arguments.level (so refl).0 (so refl).1)
  paged page.Append known.Unreached so = never _
  paged page.Append known.Unknown so = never _
  paged page.Append known.Complete so = never _
  paged page.Yank argument so = never _
  paged page.Next argument so = never _
  paged page.Write argument so = never _

  by_reply : (k : Kind) (argument : NumericArgument) → (is_long k ≡ false → IsSo argument s.arguments.level)
      → IfOk (reply_of k e s) (λ reply. SameBy (nearby.leaves_buffer k e.colons argument) reply.world.kept)
  unfolding reply_of
  by_reply (kind.Argument a) argument so = editor true _ (levels_same true (levels_after a e.text s.arguments))
  by_reply (kind.Value v) argument so =
      editor true _ (levels_same true (with_level s.arguments (level_with_value v s.world.kept s.arguments.level)))
  by_reply (kind.Query q) argument so =
      editor (nearby.leaves_query q) _ (asked q (value_for q e.colons s.arguments.level))
  by_reply (kind.Stack x) argument so =
      editor true _ (onward Same (λ (done : After). SameBy true done.kept) (stack x s.world.kept) _
      (stacked s.world.kept x) (λ new same is. same))
  by_reply (kind.Call c) argument so = λ is. as_it_was s.world.kept
  by_reply (kind.Flow f) argument so =
      onward_made (λ (turn : Turn). ⊤) (λ (reply : Reply). SameBy true reply.world.kept)
      (turn_of f e s.arguments s.frames.running) _ (anything _) (λ turn any is. as_it_was s.world.kept)
  by_reply (kind.Command c) argument so =
      editor (nearby.leaves_command c e.colons) _
      (onward_any (λ (done : After). SameBy (nearby.leaves_command c e.colons) done.kept)
      (arguments_of s.arguments.level) _ (λ taken took.
      onward (λ (effect : Effect). SameBy (nearby.leaves_command c e.colons) effect.kept)
      (λ (done : After). SameBy (nearby.leaves_command c e.colons) done.kept) (execution c e taken s.world.kept) _
      (effects (nearby.leaves_command c e.colons) (execution c e taken s.world.kept) (commanded c taken))
      (λ effect same. same)))
  by_reply (kind.Page p) argument so = paged p argument so
  by_reply (kind.Search x) argument so = never _
  by_reply (kind.File f) argument so = never _

-- ---- steps
module _ (s t : State) (e : Element) where
  module _ (P : Kept → Type 0) where
    by_course : (reply : Reply) (course : Course) → settled e s.frames reply course ≡ Next t → P reply.world.kept
        → P t.world.kept
    by_course reply Behind goes is = subst (λ (w : World). P w.kept) (let same : reply.world ≡ t.world = cc in same) is
    by_course reply Again goes is = subst (λ (w : World). P w.kept) (let same : reply.world ≡ t.world = cc in same) is
    by_course reply (Along frame) goes is =
        subst (λ (w : World). P w.kept) (let same : reply.world ≡ t.world = cc in same) is
    by_course reply (Into text) goes is =
        subst (λ (w : World). P w.kept) (let same : reply.world ≡ t.world = cc in same) is
    by_course reply Quit goes is = absurd cc
    by_course reply NoFile goes is = absurd cc
    by_course reply (Refused c) goes is = absurd cc

    settles : (r : Result Reply Fault) → IfOk r (λ reply. P reply.world.kept) → settle e s r ≡ Next t
        → P t.world.kept
    settles (Ok reply) i goes = by_course reply reply.course goes i
    settles (Err c) i goes = absurd cc

  module _ (whole : IsWholeState s) (before : NumericArgument) (pending : Pending) (characters : Characters) where
    abbrev IsBefore : Type 0
    IsBefore = IsPending pending s.arguments.level s.world.kept × AreWithin characters s.world.kept
        × IsSo before s.arguments.level

    by_short : (k : Kind) (way : ℕ) → IsBefore → OutcomeWas way k e s t
        → AreWithin (nearby.kept_where (nearby.leaves_buffer k e.colons before) characters) t.world.kept
    by_short k zero is goes =
        kept_same (nearby.leaves_buffer k e.colons before) characters s.world.kept t.world.kept
        (settles (SameBy s e (nearby.leaves_buffer k e.colons before)) (reply_of k e s)
        (by_reply s e k before (λ short. is.2)) goes) is.1
    by_short k (suc way) is goes = absurd goes

    by_page : (p : Page) (way : ℕ) → (is_long (kind.Page p) ≡ false → IsBefore) → OutcomeWas way (kind.Page p) e s t
        → AreWithin (nearby.kept_where (nearby.leaves_page p before) characters) t.world.kept
    by_page page.Append way is goes = by_short (kind.Page page.Append) way (is refl) goes
    by_page page.Yank way is goes = (tt, tt)
    by_page page.Next way is goes = (tt, tt)
    by_page page.Write way is goes = (tt, tt)

    pub characters_leave : (k : Kind) (way : ℕ) → (is_long k ≡ false → IsBefore) → ElementWas k way e s t
        → AreWithin (nearby.characters_behind e k way before pending characters) t.world.kept
    characters_leave (kind.Flow f) way is was =
        subst (λ (u : State). AreWithin (near.narrowed pending (near.range_asked f e.colons way pending) characters)
        u.world.kept) (sym was.gone)
        (by_flow s e whole pending characters (is refl).0 (is refl).1 f way was.turn was.went)
    characters_leave (kind.Call c) zero is was =
        subst (λ (u : State). AreWithin characters u.world.kept) (sym was) (is refl).1
    characters_leave (kind.Call c) (suc way) is was = absurd was
    characters_leave (kind.Search x) way is was = (tt, tt)
    characters_leave (kind.Page p) way is was = by_page p way is was
    characters_leave (kind.Argument a) way is was = by_short (kind.Argument a) way (is refl) was
    characters_leave (kind.Value v) way is was = by_short (kind.Value v) way (is refl) was
    characters_leave (kind.Query q) way is was = by_short (kind.Query q) way (is refl) was
    characters_leave (kind.Stack x) way is was = by_short (kind.Stack x) way (is refl) was
    characters_leave (kind.Command c) way is was = by_short (kind.Command c) way (is refl) was
    characters_leave (kind.File f) way is was = (tt, tt)
