-- States as cases see them, and when a case describes one.
use Rattle.std.specs.Prelude.{◌≡◌, ℕ, zero, suc, ◌+◌, ℤ, pos, ◌-ℤ◌}
use Rattle.std.specs.Prelude.{List, [], ◌∷◌, ◌++◌, length, Option, Some, None, option_map}
use Rattle.std.specs.Prelude.{option_and_then, slice_get, ◌==◌, if◌then◌else◌}
use Rattle.teco_base.specs.Lines.{line_place}
use Rattle.teco_linear.specs.Form.{Valuation}
use Rattle.teco_model.specs.Arguments.{Arguments}
use Rattle.teco_model.specs.Going.{After}
use Rattle.teco_model.specs.Registers.{Pair}
use Rattle.teco_model.specs.State.{Kept}
use Rattle.teco_model.specs.declared.arguments.Level.{Level}
use Rattle.teco_model.specs.declared.arguments.Operator.{Operator}
use Rattle.teco_model.specs.declared.flow.Loop.{Loop}
use Rattle.teco_rows.specs.declared.measure.Single.{Single}
use Rattle.teco_rows.specs.declared.measure.Single.TheVariants.{Steps, Pointer, Size, Held, LineEnd, LineStart}
use Rattle.teco_rows.specs.declared.measure.Single.TheVariants.{LastLength, CodeHere, CodeBefore, Typed, EntryHeld}
use Rattle.teco_rows.specs.declared.measure.Family.{Family}
use Rattle.teco_rows.specs.declared.measure.Family.TheVariants.{Number, Length, Turns, PushedNumber, PushedLength}
use Rattle.teco_rows.specs.declared.measure.Family.TheVariants.{First, Value}
use Rattle.teco_rows.specs.declared.measure.Measure.TheVariants.{One, Each}
use Rattle.teco_rows.specs.declared.case.Case.{Case}
use Rattle.teco_rows.specs.declared.case.Shape.{Shape}
use Rattle.teco_rows.specs.Rows.{Measures}
use Rattle.teco_rows.specs.declared.row.RowStep.{RowStep}
use Rattle.teco_rows.specs.Cases.{Fits, Carries}

-- What there was at the entry: how many pairs were on the push-down list, how many bytes were typed, and how much was
-- in the buffer and unread.
pub record Origin : Type 0 where
  pub pushes : ℕ
  pub typed : ℕ
  pub held : ℕ

-- What a case speaks of: how many steps were done, what is unread, what there was at the entry, what is kept, the
-- pending arguments, and the iterations that are open in all texts, the innermost first.
pub record Point : Type 0 where
  pub steps : ℕ
  pub unread : ℕ
  pub origin : Origin
  pub kept : Kept
  pub arguments : Arguments
  pub loops : List Loop

-- one of a list, counted from its end
abbrev pub from_end : {X : Type 0} → List X → ℕ → Option X
from_end [] i = None
from_end (x ∷ xs) i = if length xs == i then Some x else from_end xs i

-- the levels of pending arguments, the innermost first
abbrev pub levels : Arguments → List Level
levels arguments = arguments.level ∷ arguments.outer

-- one more than a character's code, and 0 where there is no character
abbrev pub code_if : Option ℕ → ℕ
code_if None = 0
code_if (Some c) = c + 1

-- that of the character at a place of a text, and of the one before it
abbrev pub code_here : List ℕ → ℕ → ℕ
code_here text pointer = code_if (slice_get text pointer)

abbrev pub code_before : List ℕ → ℕ → ℕ
code_before text zero = 0
code_before text (suc p) = code_here text p

-- what a state has once
abbrev pub single : Point → Single → ℤ
single s Steps = pos s.steps
single s Pointer = pos s.kept.pointer
single s Size = pos (length s.kept.text)
single s Held = pos (length s.kept.text + s.unread)
single s LineEnd = pos (line_place s.kept.text s.kept.pointer (pos 1))
single s LineStart = pos (line_place s.kept.text s.kept.pointer (pos 0))
single s LastLength = pos s.kept.last_length
single s CodeHere = pos (code_here s.kept.text s.kept.pointer)
single s CodeBefore = pos (code_before s.kept.text s.kept.pointer)
single s Typed = pos (length s.kept.typed) -ℤ pos s.origin.typed
single s EntryHeld = pos s.origin.held

-- the number and the length of the text of a pair
abbrev pub number_of : Option Pair → Option ℤ
number_of pair = option_map (λ p. p.number) pair

abbrev pub length_of : Option Pair → Option ℤ
length_of pair = option_map (λ p. pos (length p.text)) pair

-- what a state has of a register, an iteration, a push since the entry, or a level, if it has that
abbrev pub each : Point → Family → ℕ → Option ℤ
each s Number i = number_of (slice_get s.kept.registers.pairs i)
each s Length i = length_of (slice_get s.kept.registers.pairs i)
each s Turns i = option_and_then (λ loop. option_map pos loop.turns) (from_end s.loops i)
each s PushedNumber i = number_of (from_end s.kept.registers.stack (s.origin.pushes + i))
each s PushedLength i = length_of (from_end s.kept.registers.stack (s.origin.pushes + i))
each s First i = option_and_then (λ level. level.first) (from_end (levels s.arguments) i)
each s Value i = option_and_then (λ level. level.value) (from_end (levels s.arguments) i)

-- the measures of a state
abbrev pub measures_of : Point → Measures
measures_of s (One which) = Some (single s which)
measures_of s (Each family i) = each s family i

-- the operators that wait at levels, the outermost first
abbrev pub operators_of : List Level → List (Option Operator)
operators_of [] = []
operators_of (level ∷ outer) = operators_of outer ++ level.operator ∷ []

-- a shape is that of a state
pub record IsShape (shape : Shape) (s : Point) : Type 0 where
  pub operators : shape.operators.items ≡ operators_of (levels s.arguments)
  pub iterations : shape.iterations ≡ length s.loops
  pub pushes : s.origin.pushes + shape.pushes ≡ length s.kept.registers.stack

-- with these values of the symbols, and N being n, a case is true of a state
pub record IsTrueOf (n : ℕ) (v : Valuation) (case : Case) (s : Point) : Type 0 where
  pub fits : Fits n v case (measures_of s)
  pub shape : IsShape case.shape s

-- A case describes a state where it is true of it with some values of its symbols.
abbrev pub Describes : ℕ → Case → Point → Type 0
Describes n case s = (v : Valuation) × IsTrueOf n v case s

-- the state a step later, with this kept and these arguments
abbrev pub behind : Point → After → Point
behind s after = record s { steps = s.steps + 1; kept = after.kept; arguments = after.arguments }

-- a list has another last element
abbrev pub IsLast : Option Operator → List (Option Operator) → List (Option Operator) → Type 0
IsLast operator old new =
    (front : List (Option Operator)) (last : Option Operator) → old ≡ front ++ last ∷ [] → new ≡ front ++ operator ∷ []

-- this waits at the innermost level, or nothing does
abbrev pub WaitsFor : Option Operator → Case → Type 0
WaitsFor operator case = (s : Point) → IsShape case.shape s → s.arguments.level.operator ≡ operator

-- a case is behind a row, and another operator waits
pub record IsLed (case : Case) (step : RowStep) (operator : Option Operator) (after : Case) : Type 0 where
  pub carries : Carries case step after
  pub last : IsLast operator case.shape.operators.items after.shape.operators.items
  pub iterations : after.shape.iterations ≡ case.shape.iterations
  pub pushes : after.shape.pushes ≡ case.shape.pushes
