-- What becomes of the levels of pending arguments.
use Rattle.std.specs.Prelude.{◌≡◌, ℕ, ℤ, List, [], ◌∷◌, ◌++◌, Option, Some, None, Ok, if◌then◌else◌}
use Rattle.std.specs.List.{All}
use Rattle.teco_linear.specs.declared.term.Term.{Term}
use Rattle.teco_linear.specs.Form.{Valuation, value}
use Rattle.teco_linear.specs.Implied.{Holds}
use Rattle.teco_model.specs.Arguments.{Arguments, final_value, level_after_comma, level_with, level_with_pair}
use Rattle.teco_model.specs.Arguments.{levels_after_open}
use Rattle.teco_model.specs.Going.{after}
use Rattle.teco_model.specs.declared.arguments.Level.{Level}
use Rattle.teco_model.specs.declared.arguments.Operator.{Operator}
use Rattle.teco_rows.specs.declared.case.Case.{Case}
use Rattle.teco_rows.specs.declared.levels.TheConstants.{FIRST, VALUE}
use Rattle.teco_rows.specs.declared.measure.Measure.{Measure}
use Rattle.teco_rows.specs.declared.row.Places.{Places}
use Rattle.teco_rows.specs.declared.row.RowStep.{RowStep}
use Rattle.teco_rows.specs.Cases.{Carries, measures_by}
use Rattle.teco_rows.specs.declared.outcomes.Outcomes.{Outcomes}
use Rattle.teco_rows.specs.Foretold.{Begins, Describe, Succeeds, level_of, with_level}
use Rattle.teco_rows.specs.Rows.{is_at}
use Rattle.teco_rows.specs.States.{Point, IsTrueOf, Describes, behind}

-- a case is true of the states that another is true of
abbrev pub IsCopyOf : Case → Case → Type 0
IsCopyOf case copy =
    (n : ℕ) (v : Valuation) (s : Point) → IsTrueOf n v case s → IsTrueOf n v copy s

-- all but the last of a list
abbrev pub IsFront : List (Option Operator) → List (Option Operator) → Type 0
IsFront all front =
    (others : List (Option Operator)) (last : Option Operator) → all ≡ others ++ last ∷ [] → front ≡ others

-- forms are those without what is at the level at hand
abbrev pub Empties : Places → List (Option (List Term)) → List (Option (List Term)) → Type 0
Empties here old new =
    (n : ℕ) (v : Valuation) (m : Measure)
    → measures_by new n v m
    ≡ (if is_at here VALUE m then None else if is_at here FIRST m then None else measures_by old n v m)

-- the state with these pending arguments
abbrev pub with_arguments : Point → Arguments → Point
with_arguments s arguments = record s { arguments = arguments }

-- Where a case is true of a state with more levels than one, the other is true of it without the innermost.
abbrev pub IsOutside : Case → Case → Type 0
IsOutside case outside =
    (n : ℕ) (v : Valuation) (s : Point) (level : Level) (outer : List Level)
    → IsTrueOf n v case s → s.arguments.outer ≡ level ∷ outer
    → IsTrueOf n v outside (with_arguments s (record { level = level; outer = outer }))

-- Where a case is true of a state, the other is true of it with one level alone.
abbrev pub IsOutermost : Case → Case → Type 0
IsOutermost case outermost =
    (n : ℕ) (v : Valuation) (s : Point)
    → IsTrueOf n v case s
    → (level : Level) × IsTrueOf n v outermost (with_arguments s (record { level = level; outer = [] }))

-- a case is behind a row, with one level more, at which nothing waits
pub record IsDeeper (case : Case) (step : RowStep) (after : Case) : Type 0 where
  pub carries : Carries case step after
  pub operators : after.shape.operators.items ≡ case.shape.operators.items ++ None ∷ []
  pub iterations : after.shape.iterations ≡ case.shape.iterations
  pub pushes : after.shape.pushes ≡ case.shape.pushes

-- a case describes the state behind an opening parenthesis
abbrev pub IsOpened : Case → Case → Type 0
IsOpened case opened =
    (n : ℕ) (v : Valuation) (s : Point)
    → IsTrueOf n v case s → Describes n opened (behind s (after s.kept (levels_after_open s.arguments)))

-- a level with a first value
abbrev pub first_of : ℤ → Level
first_of x = record { first = Some x; value = None; operator = None }

-- a case describes the state behind where the innermost level has a form as its first value, and no more
abbrev pub IsParted : Case → List Term → Case → Type 0
IsParted case form parted =
    (n : ℕ) (v : Valuation) (s : Point)
    → IsTrueOf n v case s → Describes n parted (behind s (with_level s (first_of (value form n v))))

-- Where a comma stands behind the value that a form is, and no value is before it, no code comes, and one of the cases
-- describes the state behind.
abbrev pub PartsAt : List Term → Case → Outcomes → Type 0
PartsAt form case all =
    (n : ℕ) (v : Valuation) (s : Point)
    → Begins n v case all s → s.arguments.level.first ≡ None
    → final_value s.arguments.level ≡ Ok (Some (value form n v))
    → Succeeds (λ level. Describe n all (behind s (with_level s level))) (level_after_comma s.arguments.level)

-- a level with a pair
abbrev pub pair_level : ℤ → ℤ → Level
pair_level x y = record { first = Some x; value = Some y; operator = None }

-- a case describes the state behind where the innermost level has two forms as its values
abbrev pub IsPaired : Case → List Term → List Term → Case → Type 0
IsPaired case first second paired =
    (n : ℕ) (v : Valuation) (s : Point)
    → IsTrueOf n v case s
    → Describes n paired (behind s (with_level s (pair_level (value first n v) (value second n v))))

-- Where a number is given under conditions, the innermost level has the value that a form is.
abbrev pub Leaves : List Term → Case → List (List Term) → List Term → Type 0
Leaves number case conditions form =
    (n : ℕ) (v : Valuation) (s : Point)
    → IsTrueOf n v case s → All (Holds n v) conditions
    → level_with (value number n v) s.arguments.level ≡ Ok (level_of s (value form n v))

-- Where two numbers that forms are are given with a comma between them, no code comes, and one of the cases describes
-- the state behind.
abbrev pub GivesPair : List Term → List Term → Case → Outcomes → Type 0
GivesPair first second case all =
    (n : ℕ) (v : Valuation) (s : Point)
    → Begins n v case all s
    → Succeeds (λ level. Describe n all (behind s (with_level s level)))
    (level_with_pair (value first n v) (value second n v) s.arguments.level)
