-- What the loop over the multipliers keeps, and why a harmless rest shows that the target holds.
use Rattle.teco_linear.proofs.Prelude.{Bool, true, false, ◌≡◌, ℕ, ◌+◌, ◌-◌, ◌^◌, ◌<◌, ◌≤◌, ℤ, pos, negsuc, neg_ℤ, ◌+ℤ◌}
use Rattle.teco_linear.proofs.Prelude.{◌-ℤ◌, ◌*ℤ◌, ◌≤ℤ◌, List, [], ◌∷◌, Option, Some, None, length, drop, get_or, ltb}
use Rattle.teco_linear.proofs.Prelude.{ap, ◌∙◌, refl, arith, ints, ltb-true, ltb-false, drop_more, drop_all}
use Rattle.teco_linear.proofs.Prelude.{get_or_past, zero-*ℤ, All, Term, Scale, Valuation, symbol_value, term_value}
use Rattle.teco_linear.proofs.Prelude.{scale_value, value, Holds}
use Rattle.std.proofs.Common.{suc}
use Rattle.std.proofs.Common.{MatchOption}
use Rattle.std.proofs.lemmas.List.Elements.{All-head, All-tail}
use Rattle.std.proofs.Math.Nat.{mul-le-mul_left}
use Rattle.std.specs.Prelude.{IsTrue, ◌↔◌}
use Rattle.std.specs.Bool.{OnTrue}
use borrow.Author.Differences.{product_is}
use Rattle.teco_linear.proofs.Integers.{neg-*ℤ, not_negative_times, times_power_0, *ℤ-1}
use Rattle.teco_linear.specs.declared.implied.Multiplier.{Multiplier}
use Rattle.teco_linear.specs.Form.{IsHarmless}
use Rattle.teco_linear.specs.Implied.{Implies, taken, multiplier_value, IsRest}

-- what a divisor makes of a target: the divisor less 1, and the divisor times the target
abbrev pub rounded : ℕ → List Term → ℕ → Valuation → ℤ
rounded divisor target n v = pos (divisor - 1) +ℤ pos divisor *ℤ value target n v

-- the multipliers before a place are done: the rest, without what later ones take, is the whole
pub record IsTaken (constraints : List (List Term)) (multipliers : List Multiplier) (divisor : ℕ) (target : List Term)
    (i : ℕ) (rest : List Term) : Type 0 where
  pub whole : (n : ℕ) (v : Valuation)
      → value rest n v -ℤ taken constraints (drop i multipliers) n v
      ≡ rounded divisor target n v -ℤ taken constraints multipliers n v

pub IsTaken-none : (constraints : List (List Term)) (multipliers : List Multiplier) (divisor : ℕ)
    (target rounding multiple rest : List Term) (k : ℤ)
    → ((n : ℕ) (v : Valuation) → value rounding n v ≡ pos (divisor - 1)) → k ≡ pos divisor
    → ((n : ℕ) (v : Valuation) → value multiple n v ≡ (k *ℤ pos (n ^ 0)) *ℤ value target n v)
    → ((n : ℕ) (v : Valuation) → value rest n v ≡ value rounding n v +ℤ value multiple n v)
    → IsTaken constraints multipliers divisor target 0 rest
IsTaken-none constraints multipliers divisor target rounding multiple rest k rounding_is e multiple_is rest_is =
    record {
      whole = λ n v.
          let once : k *ℤ pos (n ^ 0) ≡ k = times_power_0 k n in
          let times : value multiple n v ≡ pos divisor *ℤ value target n v =
          multiple_is n v ∙ ap (λ x. x *ℤ value target n v) (once ∙ e) in
          omega (arith, ints, rest_is n v, rounding_is n v);
    }

abbrev pub no_multiplier : Multiplier
no_multiplier = record { constraint = 0; factor = 0; power = 0 }

abbrev pub multiplier_at : List Multiplier → ℕ → Multiplier
multiplier_at multipliers i = get_or multipliers i no_multiplier

pub IsTaken-more : (constraints : List (List Term)) (multipliers : List Multiplier) (divisor : ℕ)
    (target rest next constraint product : List Term) (s : Scale) (i : ℕ) → i < length multipliers
    → constraint ≡ get_or constraints (multiplier_at multipliers i).constraint []
    → ((n : ℕ) → scale_value s n ≡ neg_ℤ (multiplier_value (multiplier_at multipliers i) n))
    → ((n : ℕ) (v : Valuation) → value product n v ≡ scale_value s n *ℤ value constraint n v)
    → ((n : ℕ) (v : Valuation) → value next n v ≡ value rest n v +ℤ value product n v)
    → IsTaken constraints multipliers divisor target i rest
    → IsTaken constraints multipliers divisor target (i + 1) next
IsTaken-more constraints multipliers divisor target rest next constraint product s i h among scale_is product_is
    next_is is = record {
      whole = λ n v.
          let m = multiplier_at multipliers i in
          let k = multiplier_value m n in
          let c = value constraint n v in
          let read : c ≡ value (get_or constraints m.constraint []) n v = ap (λ x. value x n v) among in
          let split : taken constraints (drop i multipliers) n v ≡ k *ℤ value (get_or constraints m.constraint []) n
          v +ℤ taken constraints (drop (i + 1) multipliers) n v =
          ap (λ x. taken constraints x n v) (drop_more multipliers i no_multiplier h) in
          let away : value product n v ≡ neg_ℤ (k *ℤ value (get_or constraints m.constraint []) n v) =
          product_is n v ∙ ap (λ x. x *ℤ c) (scale_is n) ∙ neg-*ℤ k c ∙ ap (λ x. neg_ℤ (k *ℤ x)) read in
          omega (arith, ints, is.whole n v, next_is n v);
    }

pub IsTaken-all : (constraints : List (List Term)) (multipliers : List Multiplier) (divisor : ℕ)
    (target rest : List Term) (i : ℕ) → length multipliers ≤ i → IsTaken constraints multipliers divisor target i rest
    → IsRest constraints multipliers divisor target rest
IsTaken-all constraints multipliers divisor target rest i h is n v =
    let none : taken constraints (drop i multipliers) n v ≡ pos 0 =
    ap (λ x. taken constraints x n v) (drop_all i multipliers h) in
    omega (arith, ints, is.whole n v)

-- the constraint of an index holds, or there is none and 0 is at least 0
holds_at : (constraints : List (List Term)) (i n : ℕ) (v : Valuation) → All (Holds n v) constraints
    → Holds n v (get_or constraints i [])
holds_at constraints i n v all = by_test (ltb i (length constraints)) refl
  where
    by_test : (b : Bool) → ltb i (length constraints) ≡ b → Holds n v (get_or constraints i [])
    by_test true h = all i [] (ltb-true i (length constraints) h)
    by_test false h =
        let past : length constraints ≤ i = ltb-false i (length constraints) h in
        let none : value (get_or constraints i []) n v ≡ pos 0 =
        ap (λ x. value x n v) (get_or_past constraints i [] past) in
        omega (arith, ints)

-- what is taken of constraints that hold is at least 0
taken_low : (constraints : List (List Term)) (multipliers : List Multiplier) (n : ℕ) (v : Valuation)
    → All (Holds n v) constraints → pos 0 ≤ℤ taken constraints multipliers n v
taken_low constraints [] n v all = omega (arith, ints)
taken_low constraints (m ∷ multipliers) n v all =
    let c = value (get_or constraints m.constraint []) n v in
    let some : pos 0 ≤ℤ multiplier_value m n = omega (arith, ints) in
    let first : pos 0 ≤ℤ (multiplier_value m n *ℤ c) =
    not_negative_times (multiplier_value m n) c some (holds_at constraints m.constraint n v all) in
    omega (arith, ints, taken_low constraints multipliers n v all)

-- a harmless term, and a form of such, are at least 0
harmless_term : (k : ℤ) (symbol : Option ℕ) (power n : ℕ) (v : Valuation)
    → MatchOption symbol (pos 0 ≤ℤ k) (λ _. k ≡ pos 0) → pos 0 ≤ℤ (k *ℤ (pos (n ^ power) *ℤ symbol_value v symbol))
harmless_term k None power n v low =
    let once : pos (n ^ power) *ℤ pos 1 ≡ pos (n ^ power) = *ℤ-1 (pos (n ^ power)) in
    let some : pos 0 ≤ℤ (pos (n ^ power) *ℤ pos 1) = omega (arith, ints, once) in
    not_negative_times k (pos (n ^ power) *ℤ pos 1) low some
harmless_term k (Some symbol) power n v none =
    let zero_is : k *ℤ (pos (n ^ power) *ℤ v symbol) ≡ pos 0 =
    ap (λ x. x *ℤ (pos (n ^ power) *ℤ v symbol)) none ∙ zero-*ℤ (pos (n ^ power) *ℤ v symbol) in
    omega (arith, ints)

harmless : (rest : List Term) (n : ℕ) (v : Valuation) → All IsHarmless rest → pos 0 ≤ℤ value rest n v
harmless [] n v all = omega (arith, ints)
harmless (t ∷ rest) n v all =
    let first : pos 0 ≤ℤ term_value t n v =
    harmless_term t.coefficient t.symbol t.power n v (All-head IsHarmless t rest all) in
    omega (arith, ints, harmless rest n v (All-tail IsHarmless t rest all))

-- what is at least 0 once it is multiplied and rounded up was so before
rounded_low : (divisor : ℕ) (t : ℤ) → 0 < divisor → pos 0 ≤ℤ (pos (divisor - 1) +ℤ pos divisor *ℤ t) → pos 0 ≤ℤ t
rounded_low divisor (pos t) some low = omega (arith, ints)
rounded_low divisor (negsuc t) some low =
    let one : 1 ≤ suc t = omega arith in
    absurd (omega (arith, ints, low, product_is (pos divisor) (negsuc t), mul-le-mul_left divisor one))

implies : (constraints : List (List Term)) (multipliers : List Multiplier) (divisor : ℕ) (target rest : List Term)
    → 0 < divisor → IsRest constraints multipliers divisor target rest → All IsHarmless rest
    → Implies constraints target
implies constraints multipliers divisor target rest some is all_harmless n v all =
    rounded_low divisor (value target n v) some
    (omega (arith, ints, is n v, taken_low constraints multipliers n v all, harmless rest n v all_harmless))

pub implies_on : (answer : Bool) (constraints : List (List Term)) (multipliers : List Multiplier) (divisor : ℕ)
    (target rest : List Term) → 0 < divisor → IsRest constraints multipliers divisor target rest
    → (IsTrue answer ↔ All IsHarmless rest) → OnTrue answer (Implies constraints target)
implies_on true constraints multipliers divisor target rest some is judged =
    implies constraints multipliers divisor target rest some is (judged.0 refl)
implies_on false constraints multipliers divisor target rest some is judged = tt
