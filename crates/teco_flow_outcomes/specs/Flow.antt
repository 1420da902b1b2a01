-- Where a running text goes on.
use Rattle.std.specs.Prelude.{◌≡◌, ℕ, ℤ, ◌+◌, suc, pos, List, [], ◌∷◌, ◌++◌, length, Bool, Option, Some, None}
use Rattle.std.specs.Prelude.{drop, option_map}
use Rattle.std.specs.Prelude.{is_some, ◌⊎◌}
use Rattle.std.specs.List.{Any}
use Rattle.teco_linear.specs.declared.term.Term.{Term}
use Rattle.teco_linear.specs.Form.{Valuation, value}
use Rattle.teco_model.specs.Arguments.{Arguments, levels_after_taking, no_arguments}
use Rattle.teco_model.specs.Element.{Element}
use Rattle.teco_model.specs.Flow.{Turn, iteration, next_turn, turn_of}
use Rattle.teco_model.specs.State.{Frame}
use Rattle.teco_model.specs.declared.flow.Loop.{Loop}
use Rattle.teco_model.specs.declared.kind.Flow.{Flow}
use Rattle.teco_model.specs.declared.kind.Flow.TheVariants as flow
use Rattle.teco_model.specs.declared.kind.Kind.TheVariants as kind
use Rattle.teco_rows.specs.declared.case.Case.{Case}
use Rattle.teco_rows.specs.declared.measure.Measure.{Measure}
use Rattle.teco_rows.specs.declared.outcomes.Outcomes.{Outcomes}
use Rattle.teco_rows.specs.declared.row.RowStep.{RowStep}
use Rattle.teco_flow_outcomes.specs.declared.ranges.NumberRange.{NumberRange}
use Rattle.teco_rows.specs.Cases.{Carries, read_with, value_if}
use Rattle.teco_rows.specs.Commands.{commanded}
use Rattle.teco_rows.specs.Foretold.{Begins, Succeeds}
use Rattle.teco_flow_outcomes.specs.Law.{IsMatched, place_away}
use Rattle.teco_flow_outcomes.specs.Ranges.{IsIn}
use Rattle.teco_rows.specs.Rows.{AreMet, changed}
use Rattle.teco_rows.specs.States.{Point, IsLast, IsShape, IsTrueOf, Describes, measures_of}

-- the state a step later, with these arguments and iterations
abbrev pub turned : Point → Arguments → List Loop → Point
turned s arguments loops = record s { steps = s.steps + 1; arguments = arguments; loops = loops }

-- one of the cases describes the state behind a turn, in which the text goes on at a place
pub record TurnsTo
    (n : ℕ) (cases : List Case) (place : ℕ) (frame : Frame) (outer : List Loop) (s : Point) (turn : Turn)
    : Type 0 where
  pub described : Any (λ case. Describes n case (turned s turn.arguments (turn.frame.loops ++ outer))) cases
  pub there : turn.frame ≡ record frame { place = place; loops = turn.frame.loops }

-- the text goes on elsewhere than behind the element
abbrev pub TurnsAway : ℕ → List Case → Element → Frame → List Loop → Point → Turn → Type 0
TurnsAway n cases e frame outer s turn =
    (place : ℕ) × (place_away e.kind e frame ≡ Some place) × TurnsTo n cases place frame outer s turn

-- one of the cases of the way that it goes describes the state behind a turn
abbrev pub IsTurnOf : ℕ → List Case → List Case → Element → Frame → List Loop → Point → Turn → Type 0
IsTurnOf n cases away e frame outer s turn =
    TurnsTo n cases e.next frame outer s turn ⊎ TurnsAway n away e frame outer s turn

-- Where it begins so, a flow element with so many colons comes to no code, and one of the cases of the way that it goes
-- describes the state behind. The text has the innermost of the iterations.
abbrev pub Turns : Flow → ℕ → Case → Outcomes → Type 0
Turns flow colons case all =
    (e : Element) (frame : Frame) (outer : List Loop) (n : ℕ) (v : Valuation) (s : Point)
    → e.kind ≡ kind.Flow flow → e.colons ≡ colons → IsMatched e frame → s.loops ≡ frame.loops ++ outer
    → Begins n v case all s
    → Succeeds (IsTurnOf n all.cases.items all.away.items e frame outer s) (turn_of flow e s.arguments frame)

-- the turns left of an iteration, if they are counted
abbrev pub turns_left : Loop → Option ℤ
turns_left loop = option_map pos loop.turns

-- a case is behind a row, with so many iterations open, and no operator waits
pub record HasIterations (case : Case) (step : RowStep) (iterations : ℕ) (made : Case) : Type 0 where
  pub carries : Carries case step made
  pub last : IsLast None case.shape.operators.items made.shape.operators.items
  pub count : made.shape.iterations ≡ iterations
  pub pushes : made.shape.pushes ≡ case.shape.pushes

-- Where a row holds from the state in which the arguments are taken to that with these iterations, a case describes it.
pub record IsTurned (case : Case) (step : RowStep) (iterations : ℕ) (made : Case) : Type 0 where
  pub describes : (n : ℕ) (v : Valuation) (s : Point) (loops : List Loop)
      → IsTrueOf n v case s → length loops ≡ iterations
      → AreMet step.clauses.now (read_with step n v (measures_of s) (λ i. pos 0))
      → ((m : Measure) → measures_of (turned s (levels_after_taking s.arguments) loops) m
      ≡ changed step.clauses.now (read_with step n v (measures_of s) (λ i. pos 0)) m
      (measures_of (commanded s s.kept None) m))
      → Describes n made (turned s (levels_after_taking s.arguments) loops)

-- the number of the innermost of the iterations, and of one that begins
abbrev pub IsInnermost : ℕ → Case → Type 0
IsInnermost number case =
    (s : Point) (loop : Loop) (outer : List Loop)
    → IsShape case.shape s → s.loops ≡ loop ∷ outer → number ≡ length outer

abbrev pub IsNext : ℕ → Case → Type 0
IsNext number case = (s : Point) → IsShape case.shape s → number ≡ length s.loops

-- a case describes the state in a body that begins, with no count and with one,
abbrev pub IsUncounted : Case → Case → Type 0
IsUncounted case made =
    (n : ℕ) (v : Valuation) (s : Point) (start : ℕ)
    → IsTrueOf n v case s
    → Describes n made (turned s (levels_after_taking s.arguments)
    (record { start = start; turns = None } ∷ s.loops))

abbrev pub IsCounted : Case → List Term → Case → Type 0
IsCounted case form made =
    (n : ℕ) (v : Valuation) (s : Point) (start k : ℕ)
    → IsTrueOf n v case s → value form n v ≡ pos (suc k)
    → Describes n made (turned s (levels_after_taking s.arguments)
    (record { start = start; turns = Some k } ∷ s.loops))

-- at its start again, with one turn fewer left,
abbrev pub IsAgain : Case → Case → Type 0
IsAgain case made =
    (n : ℕ) (v : Valuation) (s : Point) (loop : Loop) (outer : List Loop) (k : ℕ)
    → IsTrueOf n v case s → s.loops ≡ loop ∷ outer → loop.turns ≡ Some (suc k)
    → Describes n made (turned s (levels_after_taking s.arguments) (record loop { turns = Some k } ∷ outer))

-- behind the last turn,
abbrev pub IsEnded : Case → Case → Type 0
IsEnded case made =
    (n : ℕ) (v : Valuation) (s : Point) (loop : Loop) (outer : List Loop)
    → IsTrueOf n v case s → s.loops ≡ loop ∷ outer → loop.turns ≡ Some 0
    → Describes n made (turned s (levels_after_taking s.arguments) outer)

-- where it is left, with no argument, for a form in a range,
abbrev pub IsLeft : Case → NumberRange → List Term → Case → Type 0
IsLeft case range form made =
    (n : ℕ) (v : Valuation) (s : Point) (loop : Loop) (outer : List Loop)
    → IsTrueOf n v case s → s.loops ≡ loop ∷ outer → IsIn range (value form n v)
    → Describes n made (turned s no_arguments outer)

-- and a step later, where all else stays
abbrev pub IsLater : Case → Case → Type 0
IsLater case made =
    (n : ℕ) (v : Valuation) (s : Point) → IsTrueOf n v case s → Describes n made (turned s s.arguments s.loops)

abbrev pub AreLater : Case → List Case → Type 0
AreLater case cases =
    (n : ℕ) (v : Valuation) (s : Point)
    → IsTrueOf n v case s → Any (λ made. Describes n made (turned s s.arguments s.loops)) cases

-- an iteration begins with the number that a form is, or with none
abbrev pub Enters : Case → Option (List Term) → List Case → List Case → Type 0
Enters case number cases away =
    (e : Element) (frame : Frame) (outer : List Loop) (n : ℕ) (v : Valuation) (s : Point)
    → e.kind ≡ kind.Flow flow.Iterate → IsMatched e frame → s.loops ≡ frame.loops ++ outer → IsTrueOf n v case s
    → Succeeds (IsTurnOf n cases away e frame outer s)
    (iteration e (value_if number n v) (levels_after_taking s.arguments) frame)

-- whether the turns of the innermost iteration are counted
abbrev pub Counts : Bool → Case → Type 0
Counts answer case =
    (n : ℕ) (v : Valuation) (s : Point) (loop : Loop) (outer : List Loop)
    → IsTrueOf n v case s → s.loops ≡ loop ∷ outer → is_some loop.turns ≡ answer

-- A turn ends of an iteration whose turns are counted, or are not, where one level of arguments is there.
abbrev pub Returns : Bool → Case → List Case → List Case → Type 0
Returns answer case cases away =
    (e : Element) (frame : Frame) (loop : Loop) (inner outer : List Loop) (n : ℕ) (v : Valuation) (s : Point)
    → e.kind ≡ kind.Flow flow.EndTurn → frame.loops ≡ loop ∷ inner → s.loops ≡ loop ∷ (inner ++ outer)
    → is_some loop.turns ≡ answer → s.arguments.outer ≡ [] → IsTrueOf n v case s
    → IsTurnOf n cases away e frame outer s (next_turn e loop inner frame)

-- a case describes the state a step later, with no argument
abbrev pub IsDropped : Case → Case → Type 0
IsDropped case made =
    (n : ℕ) (v : Valuation) (s : Point) → IsTrueOf n v case s → Describes n made (turned s no_arguments s.loops)

-- one of the cases describes it where any number of the iterations of a text are left
abbrev pub JumpsOut : Case → List Case → Type 0
JumpsOut case away =
    (n : ℕ) (v : Valuation) (s : Point) (inner outer : List Loop) (left : ℕ)
    → IsTrueOf n v case s → s.loops ≡ inner ++ outer
    → Any (λ made. Describes n made (turned s no_arguments (drop left inner ++ outer))) away
