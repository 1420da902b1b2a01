-- What always holds of a state.
use Rattle.std.specs.Prelude.{ℕ, ℤ, pos, ◌≤◌, ◌≤ℤ◌, ◌+ℤ◌, List, unwrap_or}
use Rattle.teco_base.specs.declared.TheConstants.{LIMIT}
use Rattle.teco_linear.specs.declared.difference.Difference.{Difference}
use Rattle.teco_linear.specs.declared.term.Term.{Term}
use Rattle.teco_linear.specs.Difference.{slack}
use Rattle.teco_linear.specs.Implied.{Holds}
use Rattle.teco_model.specs.laws.Whole.{IsWhole}
use Rattle.teco_rows.specs.declared.measure.Measure.{Measure}
use Rattle.teco_rows.specs.States.{Point, measures_of}
use Rattle.teco_paths.specs.Symbols.{numbers_of}
use Rattle.teco_poly.specs.Polynomial.{Polynomial, value}

-- A fact holds at each whole state, where the size that is claimed may be held.
abbrev pub IsFact : Polynomial → List Term → Type 0
IsFact size fact =
    (n : ℕ) (s : Point) → IsWhole s.kept → value size n ≤ LIMIT → Holds n (numbers_of s) fact

-- a difference is within its bound at each whole state
abbrev pub IsBound : Difference → Type 0
IsBound d = (s : Point) → IsWhole s.kept → pos 0 ≤ℤ slack d (numbers_of s)

-- what a measure is at a state; an absent one is 0
abbrev pub measured : Point → Measure → ℤ
measured s m = unwrap_or (measures_of s m) (pos 0)

-- a measure is never further below 0 than this
abbrev pub IsLeast : Measure → ℕ → Type 0
IsLeast m below = (s : Point) → IsWhole s.kept → pos 0 ≤ℤ (measured s m +ℤ pos below)

-- and never above a number
abbrev pub IsMost : Measure → ℕ → Type 0
IsMost m most = (s : Point) → IsWhole s.kept → measured s m ≤ℤ pos most
