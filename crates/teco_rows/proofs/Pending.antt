-- Levels of pending arguments.
use Rattle.teco_rows.proofs.Prelude.{◌≡◌, ℕ, ◌+◌, ◌==◌, ℤ, List, [], ◌∷◌, length, Bool, true, false, Option, Some}
use Rattle.teco_rows.proofs.Prelude.{if◌then◌else◌, option_and_then, refl, sym, ap, ◌∙◌, arith, length-append}
use Rattle.teco_rows.proofs.Prelude.{nat_tests, Level, First, Value, each, operators_of, from_end, levels, Point}
use Rattle.teco_rows.proofs.Prelude.{IsShape}
use Rattle.teco_rows.specs.declared.case.Shape.{Shape}

pub length_operators : (ls : List Level) → length (operators_of ls) ≡ length ls
length_operators [] = refl
length_operators (level ∷ outer) =
    length-append (operators_of outer) (level.operator ∷ []) ∙ omega (arith, length_operators outer)

pub depth : (shape : Shape) (s : Point) → IsShape shape s → length shape.operators.items ≡ length s.arguments.outer + 1
depth shape s h = ap length h.operators ∙ length_operators (levels s.arguments) ∙ omega arith

-- another innermost level, which has this there
pub level_at : (level other : Level) (outer : List Level) (at i : ℕ) (get : Level → Option ℤ) (x : Option ℤ)
    → at ≡ length outer → get other ≡ x
    → option_and_then get (from_end (other ∷ outer) i)
    ≡ (if at == i then x else option_and_then get (from_end (level ∷ outer) i))
level_at level other outer at i get x e f =
    chosen (length outer == i)
    ∙ ap (λ k. if k == i then x else option_and_then get (from_end (level ∷ outer) i)) (sym e) where
      chosen : (b : Bool) → option_and_then get (if b then Some other else from_end outer i)
          ≡ (if b then x else option_and_then get (if b then Some level else from_end outer i))
      chosen true = f
      chosen false = refl

-- another innermost level that has the same there
pub level_same : (level other : Level) (outer : List Level) (i : ℕ) (get : Level → Option ℤ) → get other ≡ get level
    → option_and_then get (from_end (other ∷ outer) i) ≡ option_and_then get (from_end (level ∷ outer) i)
level_same level other outer i get e = same (length outer == i) where
  same : (b : Bool) → option_and_then get (if b then Some other else from_end outer i)
      ≡ option_and_then get (if b then Some level else from_end outer i)
  same true = e
  same false = refl

equal_itself : (n : ℕ) → (n == n) ≡ true
equal_itself n = grind (arith, nat_tests)

-- the innermost level is the last one, counted from the end
pub innermost : {X : Type 0} (x : X) (xs : List X) → from_end (x ∷ xs) (length xs) ≡ Some x
innermost x xs = ap (λ b. if b then Some x else from_end xs (length xs)) (equal_itself (length xs))

pub value_there : (s : Point) → each s Value (length s.arguments.outer) ≡ s.arguments.level.value
value_there s = ap (option_and_then (λ l. l.value)) (innermost s.arguments.level s.arguments.outer)

pub first_there : (s : Point) → each s First (length s.arguments.outer) ≡ s.arguments.level.first
first_there s = ap (option_and_then (λ l. l.first)) (innermost s.arguments.level s.arguments.outer)
