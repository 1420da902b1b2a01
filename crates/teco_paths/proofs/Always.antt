-- What always holds of a state.
use Rattle.teco_paths.proofs.Prelude.{◌≡◌, ℕ, zero, suc, ◌+◌, ◌-◌, ◌/◌, ◌%◌, ◌≤◌, refl, sym, ap, subst, arith, List, []}
use Rattle.teco_paths.proofs.Prelude.{◌∷◌, length, Bool, true, false, Option, Some, None, nat_lt, slice_get, ◌==◌}
use Rattle.teco_paths.proofs.Prelude.{if◌then◌else◌, pos, ◌+ℤ◌, ◌-ℤ◌, ◌≤ℤ◌, option_and_then, unwrap_or, ltb-true, ints}
use Rattle.teco_paths.proofs.Prelude.{All, LIMIT, Term, Difference, Valuation, value, Loop, Pair, Number, Length, Turns}
use Rattle.teco_paths.proofs.Prelude.{PushedNumber, PushedLength, One, Each, from_end, number_of, length_of, line_end}
use Rattle.teco_paths.proofs.Prelude.{ORDER, MOST_BELOW, MOST_NUMBER, IsFact, family_of, measure_of, numbers_of}
use Rattle.teco_paths.proofs.Prelude.{single_of, Polynomial}
use Rattle.std.specs.Prelude.{option_map}
use Rattle.std.specs.List.{AllByRecursion}
use Rattle.teco_linear.specs.Difference.{slack}
use Rattle.teco_model.specs.laws.Whole.{IsWholePair}
use Rattle.teco_rows.proofs.Lines.{line_begin}
use Rattle.teco_paths.specs.Facts.{IsBound, IsLeast, IsMost}
use Rattle.teco_poly.specs.Polynomial as poly

-- ---- the order of places
pub in_order : All IsBound ORDER
in_order zero d l s whole = omega (arith, ints)
in_order (suc zero) d l s whole = omega (arith, ints)
in_order (suc (suc zero)) d l s whole = let b = line_begin s.kept.text s.kept.pointer in omega (arith, ints, b.before)
in_order (suc (suc (suc zero))) d l s whole =
    let b = line_end s.kept.text s.kept.pointer whole.inside in omega (arith, ints, b.after)
in_order (suc (suc (suc (suc zero)))) d l s whole =
    let b = line_end s.kept.text s.kept.pointer whole.inside in omega (arith, ints, b.within)
in_order (suc (suc (suc (suc (suc zero))))) d l s whole = omega (arith, ints)
in_order (suc (suc (suc (suc (suc (suc zero)))))) d l s whole = omega (arith, ints, whole.within)
in_order (suc (suc (suc (suc (suc (suc (suc zero))))))) d l s whole = omega (arith, ints)
in_order (suc (suc (suc (suc (suc (suc (suc (suc zero)))))))) d l s whole = omega (arith, ints, whole.last)
in_order (suc (suc (suc (suc (suc (suc (suc (suc (suc k))))))))) d l s whole = absurd (omega (arith, l))

pub bound_fact : (size : Polynomial) (form : List Term) (d : Difference) → IsBound d
    → ((n : ℕ) (v : Valuation) → value form n v ≡ slack d v) → IsFact size form
bound_fact size form d h is n s whole room = subst (λ x. pos 0 ≤ℤ x) (sym (is n (numbers_of s))) (h s whole)

pub room_fact : (size : Polynomial) (form : List Term)
    → ((n : ℕ) (v : Valuation) → value form n v ≡ pos LIMIT -ℤ pos (poly.value size n)) → IsFact size form
room_fact size form is n s whole room = omega (arith, ints, is n (numbers_of s), room)

-- ---- pairs
whole_at : (xs : List Pair) (i : ℕ) (p : Pair) → AllByRecursion IsWholePair xs → slice_get xs i ≡ Some p → IsWholePair p
whole_at [] i p h e = absurd (cc)
whole_at (x ∷ xs) zero p h e = let same : x ≡ p = cc in subst IsWholePair same h.0
whole_at (x ∷ xs) (suc i) p h e = whole_at xs i p h.1 e

whole_from_end : (xs : List Pair) (i : ℕ) (p : Pair) → AllByRecursion IsWholePair xs → from_end xs i ≡ Some p
    → IsWholePair p
whole_from_end [] i p h e = absurd (cc)
whole_from_end (x ∷ xs) i p h e = by (length xs == i) e (whole_from_end xs i p h.1)
  where
    by : (b : Bool) → (if b then Some x else from_end xs i) ≡ Some p → (from_end xs i ≡ Some p → IsWholePair p)
        → IsWholePair p
    by true e rest = let same : x ≡ p = cc in subst IsWholePair same h.0
    by false e rest = rest e

least_number : (o : Option Pair) → ((p : Pair) → o ≡ Some p → IsWholePair p)
    → pos 0 ≤ℤ (unwrap_or (number_of o) (pos 0) +ℤ pos MOST_BELOW)
least_number None h = omega (arith, ints)
least_number (Some p) h = let w = h p refl in omega (arith, ints, w.number)

most_number : (o : Option Pair) → ((p : Pair) → o ≡ Some p → IsWholePair p)
    → unwrap_or (number_of o) (pos 0) ≤ℤ pos MOST_NUMBER
most_number None h = omega (arith, ints)
most_number (Some p) h = let w = h p refl in omega (arith, ints, w.number)

least_length : (o : Option Pair) → pos 0 ≤ℤ (unwrap_or (length_of o) (pos 0) +ℤ pos 0)
least_length None = omega (arith, ints)
least_length (Some p) = omega (arith, ints)

most_length : (o : Option Pair) → ((p : Pair) → o ≡ Some p → IsWholePair p)
    → unwrap_or (length_of o) (pos 0) ≤ℤ pos LIMIT
most_length None h = omega (arith, ints)
most_length (Some p) h = let w = h p refl in omega (arith, ints, w.within)

least_turns : (o : Option Loop)
    → pos 0 ≤ℤ (unwrap_or (option_and_then (λ (loop : Loop). option_map pos loop.turns) o) (pos 0) +ℤ pos 0)
least_turns None = omega (arith, ints)
least_turns (Some loop) = by loop.turns
  where
    by : (turns : Option ℕ) → pos 0 ≤ℤ (unwrap_or (option_map pos turns) (pos 0) +ℤ pos 0)
    by None = omega (arith, ints)
    by (Some n) = omega (arith, ints)

-- ---- by families
pub number_least : (i : ℕ) → IsLeast (Each Number i) MOST_BELOW
number_least i s whole =
    least_number (slice_get s.kept.registers.pairs i) (λ p e. whole_at s.kept.registers.pairs i p whole.pairs e)

pub number_most : (i : ℕ) → IsMost (Each Number i) MOST_NUMBER
number_most i s whole =
    most_number (slice_get s.kept.registers.pairs i) (λ p e. whole_at s.kept.registers.pairs i p whole.pairs e)

pub length_least : (i : ℕ) → IsLeast (Each Length i) 0
length_least i s whole = least_length (slice_get s.kept.registers.pairs i)

pub length_most : (i : ℕ) → IsMost (Each Length i) LIMIT
length_most i s whole =
    most_length (slice_get s.kept.registers.pairs i) (λ p e. whole_at s.kept.registers.pairs i p whole.pairs e)

pub turns_least : (i : ℕ) → IsLeast (Each Turns i) 0
turns_least i s whole = least_turns (from_end s.loops i)

pub pushed_number_least : (i : ℕ) → IsLeast (Each PushedNumber i) MOST_BELOW
pushed_number_least i s whole =
    least_number (from_end s.kept.registers.stack (s.origin.pushes + i))
    (λ p e. whole_from_end s.kept.registers.stack (s.origin.pushes + i) p whole.stack e)

pub pushed_number_most : (i : ℕ) → IsMost (Each PushedNumber i) MOST_NUMBER
pushed_number_most i s whole =
    most_number (from_end s.kept.registers.stack (s.origin.pushes + i))
    (λ p e. whole_from_end s.kept.registers.stack (s.origin.pushes + i) p whole.stack e)

pub pushed_length_least : (i : ℕ) → IsLeast (Each PushedLength i) 0
pushed_length_least i s whole = least_length (from_end s.kept.registers.stack (s.origin.pushes + i))

pub pushed_length_most : (i : ℕ) → IsMost (Each PushedLength i) LIMIT
pushed_length_most i s whole =
    most_length (from_end s.kept.registers.stack (s.origin.pushes + i))
    (λ p e. whole_from_end s.kept.registers.stack (s.origin.pushes + i) p whole.stack e)

-- ---- by places
measure_is : (k c : ℕ) → 11 ≤ k → (k - 11) % 7 ≡ c → measure_of k ≡ Each (family_of c) ((k - 11) / 7)
measure_is k c l e = by (nat_lt k 11) refl
  where
    by : (b : Bool) → nat_lt k 11 ≡ b
        → (if b then One (single_of k) else Each (family_of ((k - 11) % 7)) ((k - 11) / 7)) ≡ Each (family_of c)
        ((k - 11) / 7)
    by true h = absurd (omega (arith, l, ltb-true k 11 h))
    by false h = ap (λ c. Each (family_of c) ((k - 11) / 7)) e

pub least_here : (k c least : ℕ) → 11 ≤ k → (k - 11) % 7 ≡ c → IsLeast (Each (family_of c) ((k - 11) / 7)) least
    → IsLeast (measure_of k) least
least_here k c least l e h = subst (λ m. IsLeast m least) (sym (measure_is k c l e)) h

pub most_here : (k c most : ℕ) → 11 ≤ k → (k - 11) % 7 ≡ c → IsMost (Each (family_of c) ((k - 11) / 7)) most
    → IsMost (measure_of k) most
most_here k c most l e h = subst (λ m. IsMost m most) (sym (measure_is k c l e)) h

pub least_fact : (size : Polynomial) (form : List Term) (k below : ℕ) → IsLeast (measure_of k) below
    → ((n : ℕ) (v : Valuation) → value form n v ≡ v k +ℤ pos below) → IsFact size form
least_fact size form k below h is n s whole room =
    subst (λ x. pos 0 ≤ℤ x) (sym (is n (numbers_of s))) (h s whole)

pub most_fact : (size : Polynomial) (form : List Term) (k most : ℕ) → IsMost (measure_of k) most
    → ((n : ℕ) (v : Valuation) → value form n v ≡ pos most -ℤ v k) → IsFact size form
most_fact size form k most h is n s whole room =
    let high : numbers_of s k ≤ℤ pos most = h s whole in omega (arith, ints, is n (numbers_of s), high)
