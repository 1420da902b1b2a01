-- What is done with known arguments is true of the pending ones.
use Rattle.teco_law_facts.proofs.Prelude.{◌≡◌, ℤ, pos, negsuc, arith, w32, FitsSigned, refl, int_le, Bool, true, false}
use Rattle.teco_law_facts.proofs.Prelude.{cond, map, ok_or, Result, Ok, Err, Option, Some, None, List, [], ◌∷◌, ℕ, ⊤}
use Rattle.teco_law_facts.proofs.Prelude.{ints, SFits-int_wrap, and, or, Code, needed_value, Level, Operator, Plus}
use Rattle.teco_law_facts.proofs.Prelude.{Minus, Times, Over, And, Or, ◌>>=◌, KnownLevel, KnownArguments, IsOptional}
use Rattle.teco_law_facts.proofs.Prelude.{IsLevel, ArePending, AreEach, IsTaken, single, value_in, plus, minus}
use Rattle.teco_law_facts.proofs.Prelude.{interval_of, IsValue, IsPlaceIf, RefusalReason, Distances, Interval, Value}
use Rattle.teco_base.specs.declared.code.Code.TheVariants as code
use Rattle.teco_model.specs.Arguments as model
use Rattle.teco_law_facts.proofs.Numbers.{AreDistances, interval_of_in, value_in_in, sum_in, difference_in}
use Rattle.teco_law_facts.proofs.Numbers.{product_in}
use Rattle.teco_law_facts.proofs.Quotients.{divided_covers, bitwise_in, and_fits, or_fits}
use Rattle.teco_law_facts.proofs.Saved.{Widens, place_after}
use Rattle.teco_law_facts.proofs.Steps.{Covers, covers_then}
use Rattle.teco_verifier.specs.facts.Arguments as known
use Rattle.teco_verifier.specs.declared.refusal.RefusalReason.TheVariants as refusal

module _ (distances : Distances) (fore back : ℕ) (b : AreDistances distances fore back) where
  pub single_in : (v : ℤ) → FitsSigned w32 v → IsValue fore back (single v) v
  single_in v f = record { is = record { low = omega (arith, ints); high = omega (arith, ints) }; fits = f; saved = tt }

  -- a result is not saved
  unsaved : (x : Bool) (exact : Value) (i : Interval) (v : ℤ) → exact.saved ≡ false
      → IsPlaceIf (cond x exact (value_in i)).saved fore back v
  unsaved true exact i v e = rw e tt
  unsaved false exact i v e = tt

  applied_covers : (operator : Operator) (s t : Value) (v w : ℤ) → IsValue fore back s v → IsValue fore back t w
      → Covers (IsValue fore back) (known.result_of distances operator s t) (model.result_of operator v w)
  applied_covers Plus s t v w h i =
      record {
        is = sum_in distances s t fore back v w b h.is i.is;
        fits = SFits-int_wrap w32 _;
        saved = unsaved _ (plus s t) _ _ refl;
      }
  applied_covers Minus s t v w h i = record {
    is = difference_in distances s t fore back v w b h.is i.is;
    fits = SFits-int_wrap w32 _;
    saved = unsaved _ (minus s t) _ _ refl;
  }
  applied_covers Times s t v w h i = record {
    is = product_in distances s t fore back v w b h.is i.is;
    fits = SFits-int_wrap w32 _;
    saved = tt;
  }
  applied_covers Over s t v w h i = divided_covers distances fore back b s t v w h i
  applied_covers And s t v w h i = bitwise_in distances fore back b s t v w h i and and_fits
  applied_covers Or s t v w h i = bitwise_in distances fore back b s t v w h i or or_fits

  given_covers : (s : Value) (v : ℤ) (value : Option Value) (n : Option ℤ) (operator : Option Operator)
      → IsValue fore back s v → IsOptional (IsValue fore back) value n
      → Covers (IsValue fore back) (known.value_with distances s value operator) (model.value_with v n operator)
  given_covers s v value n None h i = h
  given_covers s v None None (Some operator) h i =
      applied_covers operator _ _ _ _ (single_in (pos 0) (omega (arith, ints))) h
  given_covers s v (Some t) (Some w) (Some operator) h i = applied_covers operator _ _ _ _ i h
  given_covers s v value n operator h i = absurd (grind arith)

  pub give_covers : (s : Value) (v : ℤ) (k : KnownLevel) (level : Level) → IsValue fore back s v
      → IsLevel fore back k level → Covers (IsLevel fore back) (known.level_with distances s k)
      (model.level_with v level)
  give_covers s v k level h i =
      rw i.operator (covers_then (IsValue fore back) (IsLevel fore back) _ _ _ _
      (given_covers s v k.value level.value k.operator h i.value)
      (λ t w p. record { first = i.first; value = p; operator = refl }))

  pended_covers : (operator : Operator) (pending : Option Operator)
      → Covers (λ x y. y ≡ x) (known.operator_after operator pending) (model.operator_after operator pending)
  pended_covers operator None = refl
  pended_covers operator (Some pending) = tt

  pub operate_covers : (operator : Operator) (k : KnownLevel) (level : Level) → IsLevel fore back k level
      → Covers (IsLevel fore back) (known.level_with_operator operator k) (model.level_with_operator operator level)
  operate_covers operator k level i =
      rw i.operator (covers_then (λ x y. y ≡ x) (IsLevel fore back) _ _ _ _ (pended_covers operator k.operator)
      (λ x y e. record { first = i.first; value = i.value; operator = e }))

  finished_value_covers : (value : Option Value) (n : Option ℤ) (operator : Option Operator)
      → IsOptional (IsValue fore back) value n
      → Covers (IsOptional (IsValue fore back)) (known.value_at_end value operator) (model.value_at_end n operator)
  finished_value_covers value n None h = h
  finished_value_covers None None (Some Plus) h = single_in (pos 1) (omega (arith, ints))
  finished_value_covers None None (Some Minus) h = single_in (negsuc 0) (omega (arith, ints))
  finished_value_covers (Some s) (Some v) (Some operator) h = tt
  finished_value_covers None None operator h = tt
  finished_value_covers value n operator h = absurd (grind arith)

  pub finished_covers : (k : KnownLevel) (level : Level) → IsLevel fore back k level
      → Covers (IsOptional (IsValue fore back)) (known.final_value k) (model.final_value level)
  finished_covers k level i = rw i.operator (finished_value_covers k.value level.value k.operator i.value)

  no_first_covers : (first : Option Value) (n : Option ℤ) → IsOptional (IsValue fore back) first n
      → Covers (λ x y. ⊤) (known.no_first first) (model.no_first n)
  no_first_covers None None h = tt
  no_first_covers (Some s) (Some v) h = tt
  no_first_covers first n h = absurd (grind arith)

  not_negative : (x : Bool) (s : Value) (v : ℤ) → int_le (pos 0) (interval_of distances s).lo ≡ x
      → IsValue fore back s v → Covers (IsValue fore back) (cond x (Ok s) (Err refusal.Argument))
      (model.first_value (Some v))
  not_negative false s v e h = tt
  not_negative true s (pos n) e h = h
  not_negative true s (negsuc n) e h =
      let r = interval_of_in s distances fore back (negsuc n) b.least (omega arith) (omega arith) h.is in
      absurd (omega (arith, ints, r, e))

  first_value_covers : (value : Option Value) (n : Option ℤ) → IsOptional (IsValue fore back) value n
      → Covers (IsValue fore back) (known.first_value distances value) (model.first_value n)
  first_value_covers None None h = tt
  first_value_covers (Some s) (Some v) h = not_negative _ s v refl h
  first_value_covers value n h = absurd (grind arith)

  pub comma_covers : (k : KnownLevel) (level : Level) → IsLevel fore back k level
      → Covers (IsLevel fore back) (known.level_after_comma distances k) (model.level_after_comma level)
  comma_covers k level i =
      covers_then (λ x y. ⊤) (IsLevel fore back) _ _ _ _ (no_first_covers k.first level.first i.first) (λ x y u.
      covers_then (IsOptional (IsValue fore back)) (IsLevel fore back) _ _ _ _ (finished_covers k level i) (λ s v h.
      covers_then (IsValue fore back) (IsLevel fore back) _ _ _ _ (first_value_covers s v h)
      (λ s v p. record { first = p; value = tt; operator = refl })))

  pub give_both_covers : (s t : Value) (v w : ℤ) (k : KnownLevel) (level : Level) → IsValue fore back s v
      → IsValue fore back t w → IsLevel fore back k level
      → Covers (IsLevel fore back) (known.level_with_pair distances s t k) (model.level_with_pair v w level)
  give_both_covers s t v w k level h i j =
      covers_then (IsLevel fore back) (IsLevel fore back) _ _ _ _ (give_covers s v k level h j) (λ k level p.
      covers_then (IsLevel fore back) (IsLevel fore back) _ _ _ _ (comma_covers k level p)
      (λ k level q. give_covers t w k level i q))

  pub at_level_covers : (pending : KnownArguments) (arguments : model.Arguments) (x : Result KnownLevel RefusalReason)
      (y : Result Level Code) → ArePending fore back pending arguments → Covers (IsLevel fore back) x y
      → Covers (ArePending fore back) (known.with_level pending x) (model.with_level arguments y)
  at_level_covers pending arguments x y h i =
      covers_then (IsLevel fore back) (ArePending fore back) x y _ _ i
      (λ k level p. record { level = p; outer = h.outer })

  pub empty_is : IsLevel fore back known.empty_level model.empty_level
  empty_is = record { first = tt; value = tt; operator = refl }

  pub nothing_is : ArePending fore back known.no_arguments model.no_arguments
  nothing_is = record { level = empty_is; outer = tt }

  pub opened_is : (pending : KnownArguments) (arguments : model.Arguments) → ArePending fore back pending arguments
      → ArePending fore back (known.levels_after_open pending) (model.levels_after_open arguments)
  opened_is pending arguments h = record { level = empty_is; outer = (h.level, h.outer) }

  the_value : (value : Option Value) (n : Option ℤ) → IsOptional (IsValue fore back) value n
      → Covers (IsValue fore back) (ok_or value refusal.Argument) (ok_or n code.Arg)
  the_value None None h = tt
  the_value (Some s) (Some v) h = h
  the_value value n h = absurd (grind arith)

  enclosed_covers : (k : KnownLevel) (level : Level) → IsLevel fore back k level
      → Covers (IsValue fore back) (known.inner_value k) (model.inner_value level)
  enclosed_covers k level i =
      covers_then (λ x y. ⊤) (IsValue fore back) _ _ _ _ (no_first_covers k.first level.first i.first) (λ x y u.
      covers_then (IsOptional (IsValue fore back)) (IsValue fore back) _ _ _ _ (finished_covers k level i)
      (λ s v h. the_value s v h))

  pub closed_covers : (k : KnownLevel) (level : Level) (ks : List KnownLevel) (levels : List Level)
      → IsLevel fore back k level → AreEach (IsLevel fore back) ks levels
      → Covers (ArePending fore back) (known.levels_closed_onto distances k ks) (model.levels_closed_onto level levels)
  closed_covers k level [] levels i h = tt
  closed_covers k level (outside ∷ ks) [] i h = absurd h
  closed_covers k level (outside ∷ ks) (out ∷ levels) i h =
      covers_then (IsValue fore back) (ArePending fore back) _ _ _ _ (enclosed_covers k level i) (λ s v p.
      covers_then (IsLevel fore back) (ArePending fore back) _ _ _ _ (give_covers s v outside out p h.0)
      (λ k level q. record { level = q; outer = h.1 }))

  -- what a command takes is known
  paired_covers : (f v : Option Value) (m n : Option ℤ) → IsOptional (IsValue fore back) f m
      → IsOptional (IsValue fore back) v n
      → Covers (IsTaken fore back) (known.arguments_from f v) (model.arguments_from m n)
  paired_covers None None None None h i = record { first = tt; value = tt }
  paired_covers None (Some s) None (Some v) h i = record { first = tt; value = i }
  paired_covers (Some s) None (Some v) None h i = tt
  paired_covers (Some s) (Some t) (Some v) (Some w) h i = record { first = h; value = i }
  paired_covers f v m n h i = absurd (grind arith)

  pub taken_covers : (k : KnownLevel) (level : Level) → IsLevel fore back k level
      → Covers (IsTaken fore back) (known.arguments_of k) (model.arguments_of level)
  taken_covers k level i =
      covers_then (IsOptional (IsValue fore back)) (IsTaken fore back) _ _ _ _ (finished_covers k level i)
      (λ s v h. paired_covers k.first s level.first v i.first h)

  pub needed_covers : (k : KnownLevel) (level : Level) → IsLevel fore back k level
      → Covers (IsValue fore back) (known.arguments_of k >>= λ taken. known.needed_value taken.value)
      (model.arguments_of level >>= λ taken. needed_value taken.value)
  needed_covers k level i = covers_then (IsTaken fore back) (IsValue fore back) _ _ _ _ (taken_covers k level i)
      (λ known taken j. the_value known.value taken.value j.value)

-- Intervals are true wherever the pointer is, and what is saved is still a place.
module _ (distances : Distances) (ends : Bool) (fore back fore' back' : ℕ) (b : AreDistances distances fore back)
    (wider : Widens ends fore back fore' back') where
  settled_value_is : (value : Option Value) (n : Option ℤ) → IsOptional (IsValue fore back) value n
      → IsOptional (IsValue fore' back') (known.settled_value distances ends value) n
  settled_value_is None None h = tt
  settled_value_is (Some s) (Some v) h =
      let i = value_in_in (interval_of distances s) fore' back' v
      (interval_of_in s distances fore back v b.least (omega arith) (omega arith) h.is) in
      record {
        is = record { low = i.low; high = i.high };
        fits = h.fits;
        saved = place_after ends s.saved fore back fore' back' v wider h.saved;
      }
  settled_value_is value n h = absurd (grind arith)

  settled_level_is : (k : KnownLevel) (level : Level) → IsLevel fore back k level
      → IsLevel fore' back' (known.settled_level distances ends k) level
  settled_level_is k level i = record {
    first = settled_value_is k.first level.first i.first;
    value = settled_value_is k.value level.value i.value;
    operator = i.operator;
  }

  settled_levels_are : (ks : List KnownLevel) (levels : List Level) → AreEach (IsLevel fore back) ks levels
      → AreEach (IsLevel fore' back') (map (known.settled_level distances ends) ks) levels
  settled_levels_are [] [] h = tt
  settled_levels_are (k ∷ ks) (level ∷ levels) h = (settled_level_is k level h.0, settled_levels_are ks levels h.1)
  settled_levels_are ks levels h = absurd (grind arith)

  pub settled_are : (pending : KnownArguments) (arguments : model.Arguments) → ArePending fore back pending arguments
      → ArePending fore' back' (known.settled distances ends pending) arguments
  settled_are pending arguments h = record {
    level = settled_level_is pending.level arguments.level h.level;
    outer = settled_levels_are pending.outer arguments.outer h.outer;
  }
