-- Registers, as a state has them.
use Rattle.teco_rows.proofs.Prelude.{◌≡◌, ℕ, zero, suc, ◌<◌, ◌==◌, ℤ, pos, List, [], ◌∷◌, length, Bool, true, false}
use Rattle.teco_rows.proofs.Prelude.{Option, Some, if◌then◌else◌, slice_get, slice_index_or, refl, ap, ◌∙◌, arith}
use Rattle.teco_rows.proofs.Prelude.{nat_tests, REGISTERS, Kept, number_of, length_of}
use Rattle.std.proofs.Common.{slice_set}
use Rattle.teco_model.specs.Registers.{Pair, pair_of, empty_pair}
use Rattle.teco_model.specs.laws.Whole.{IsWhole}

-- one that is there
there : (pairs : List Pair) (r : ℕ) → r < length pairs → slice_get pairs r ≡ Some (slice_index_or pairs r empty_pair)
there [] r h = absurd (omega arith)
there (p ∷ pairs) zero h = refl
there (p ∷ pairs) (suc r) h = there pairs r (omega arith)

-- one that is set
pub set_pair : (pairs : List Pair) (r i : ℕ) (pair : Pair) → r < length pairs
    → slice_get (slice_set pairs r pair) i ≡ (if r == i then Some pair else slice_get pairs i)
set_pair [] r i pair h = absurd (omega arith)
set_pair (p ∷ pairs) zero zero pair h = refl
set_pair (p ∷ pairs) zero (suc i) pair h = ap (λ b. if b then Some pair else slice_get pairs i) (apart i) where
  apart : (i : ℕ) → false ≡ (zero == suc i)
  apart i = grind (arith, nat_tests)
set_pair (p ∷ pairs) (suc r) zero pair h = ap (λ b. if b then Some pair else Some p) (apart r) where
  apart : (r : ℕ) → false ≡ (suc r == zero)
  apart r = grind (arith, nat_tests)
set_pair (p ∷ pairs) (suc r) (suc i) pair h =
    set_pair pairs r i pair (omega arith) ∙ ap (λ b. if b then Some pair else slice_get pairs i) (same r i) where
      same : (r i : ℕ) → (r == i) ≡ (suc r == suc i)
      same r i = grind (arith, nat_tests)

pub pair_there : (kept : Kept) (r : ℕ) → IsWhole kept → r < REGISTERS
    → slice_get kept.registers.pairs r ≡ Some (pair_of r kept.registers)
pair_there kept r whole h = there kept.registers.pairs r (omega (arith, whole.count))

-- a pair that is set has what it has, and others have what they had
pub number_set : (pairs : List Pair) (r i : ℕ) (pair : Pair) (x : Option ℤ) → r < length pairs → Some pair.number ≡ x
    → number_of (slice_get (slice_set pairs r pair) i) ≡ (if r == i then x else number_of (slice_get pairs i))
number_set pairs r i pair x h e = ap number_of (set_pair pairs r i pair h) ∙ chosen (r == i) where
  chosen : (b : Bool) → number_of (if b then Some pair else slice_get pairs i)
      ≡ (if b then x else number_of (slice_get pairs i))
  chosen true = e
  chosen false = refl

pub length_set : (pairs : List Pair) (r i : ℕ) (pair : Pair) (x : Option ℤ) → r < length pairs
    → Some (pos (length pair.text)) ≡ x
    → length_of (slice_get (slice_set pairs r pair) i) ≡ (if r == i then x else length_of (slice_get pairs i))
length_set pairs r i pair x h e = ap length_of (set_pair pairs r i pair h) ∙ chosen (r == i) where
  chosen : (b : Bool) → length_of (if b then Some pair else slice_get pairs i)
      ≡ (if b then x else length_of (slice_get pairs i))
  chosen true = e
  chosen false = refl

-- where a number is set texts stay, and where a text is set numbers do
pub lengths_stay : (pairs : List Pair) (r i : ℕ) (x : ℤ)
    → length_of (slice_get (slice_set pairs r (record (slice_index_or pairs r empty_pair) { number = x })) i)
    ≡ length_of (slice_get pairs i)
lengths_stay [] r i x = refl
lengths_stay (p ∷ pairs) zero zero x = refl
lengths_stay (p ∷ pairs) zero (suc i) x = refl
lengths_stay (p ∷ pairs) (suc r) zero x = refl
lengths_stay (p ∷ pairs) (suc r) (suc i) x = lengths_stay pairs r i x

pub numbers_stay : (pairs : List Pair) (r i : ℕ) (text : List ℕ)
    → number_of (slice_get (slice_set pairs r (record (slice_index_or pairs r empty_pair) { text = text })) i)
    ≡ number_of (slice_get pairs i)
numbers_stay [] r i text = refl
numbers_stay (p ∷ pairs) zero zero text = refl
numbers_stay (p ∷ pairs) zero (suc i) text = refl
numbers_stay (p ∷ pairs) (suc r) zero text = refl
numbers_stay (p ∷ pairs) (suc r) (suc i) text = numbers_stay pairs r i text
