-- What is asked of \.
use Rattle.std.specs.Prelude.{◌≡◌, ℕ, ◌+◌, ◌≤◌, ℤ, pos, ◌-ℤ◌, ◌≤ℤ◌, List, [], ◌∷◌, ◌++◌, Option, length, FitsSigned}
use Rattle.std.specs.Int.{w32}
use Rattle.std.specs.List.{All, Any}
use Rattle.teco_base.specs.declared.TheConstants.{LIMIT}
use Rattle.teco_base.specs.NumberText.{decimal}
use Rattle.teco_linear.specs.declared.term.Term.{Term}
use Rattle.teco_linear.specs.Form.{Valuation, value}
use Rattle.teco_linear.specs.Implied.{Holds}
use Rattle.teco_model.specs.Arguments.{level_with, standing_value}
use Rattle.teco_model.specs.Conversion.{number_here}
use Rattle.teco_model.specs.Insertion.{insertion_of}
use Rattle.teco_model.specs.State.{Kept}
use Rattle.teco_model.specs.laws.Whole.{IsWhole}
use Rattle.teco_rows.specs.declared.case.Case.{Case}
use Rattle.teco_rows.specs.declared.outcomes.Guarded.{Guarded}
use Rattle.teco_rows.specs.declared.outcomes.Outcomes.{Outcomes}
use Rattle.teco_rows.specs.declared.row.Clause.{Clause}
use Rattle.teco_rows.specs.Cases.{value_if}
use Rattle.teco_rows.specs.Commands.{commanded}
use Rattle.teco_rows.specs.Foretold.{Begins, Describe, IsGuarded, Succeeds, with_level}
use Rattle.teco_rows.specs.States.{Point, IsTrueOf, Describes, behind}
use Rattle.teco_query_outcomes.specs.declared.conversions.NumberSpan.{NumberSpan}
use Rattle.teco_motion_outcomes.specs.Changes.{IsChangedFrom, with_kept}
use Rattle.teco_motion_outcomes.specs.Changes.{IsDone}

-- a form is the value that stands, if one does
abbrev pub IsStanding : Case → Option (List Term) → Type 0
IsStanding case form =
    (n : ℕ) (v : Valuation) (s : Point) → IsTrueOf n v case s → value_if form n v ≡ standing_value s.arguments.level

-- what is kept with the pointer behind the number that it is at
abbrev pub kept_behind_number : Kept → Kept
kept_behind_number kept = record kept { pointer = kept.pointer + (number_here kept).len }

-- a case describes the state with this kept
abbrev pub IsBehindNumber : Case → Case → Type 0
IsBehindNumber case made =
    (n : ℕ) (v : Valuation) (s : Point)
    → IsTrueOf n v case s → IsWhole s.kept → Describes n made (with_kept s (kept_behind_number s.kept))

-- one of the cases does
abbrev pub AreBehindNumber : Case → List Case → Type 0
AreBehindNumber case cases =
    (n : ℕ) (v : Valuation) (s : Point)
    → IsTrueOf n v case s → IsWhole s.kept
    → Any (λ made. Describes n made (with_kept s (kept_behind_number s.kept))) cases

-- there is one case more, that behind a row
pub record AddsChanged (case : Case) (row : List Clause) (cases more : List Case) : Type 0 where
  pub made : Case
  pub changes : IsChangedFrom case row [] made
  pub items : more ≡ cases ++ made ∷ []

-- where any number of 32 bits is given, no code comes, and one of the cases describes the state behind
abbrev pub GivesAmong : List Case → Case → Type 0
GivesAmong cases case =
    (n : ℕ) (v : Valuation) (s : Point) (x : ℤ)
    → IsTrueOf n v case s → FitsSigned w32 x
    → Succeeds (λ level. Any (λ case. Describes n case (behind s (with_level s level))) cases)
    (level_with x s.arguments.level)

-- there are these cases more
pub record AddsGiven (case : Case) (cases more : List Case) : Type 0 where
  pub given : List Case
  pub gives : GivesAmong given case
  pub items : more ≡ cases ++ given

-- where it begins so, the number at the pointer is given with no code, and one of the cases describes the state behind
abbrev pub ReadsNumber : Case → Outcomes → Type 0
ReadsNumber case all =
    (n : ℕ) (v : Valuation) (s : Point)
    → Begins n v case all s
    → Succeeds (λ level. Describe n all (behind (with_kept s (kept_behind_number s.kept))
    (with_level (with_kept s (kept_behind_number s.kept)) level)))
    (level_with (number_here s.kept).number s.arguments.level)

-- where it begins so, the number that a form is is inserted in decimal
abbrev pub WritesNumber : List Term → Case → Outcomes → Type 0
WritesNumber form case all =
    (n : ℕ) (v : Valuation) (s : Point)
    → Begins n v case all s → IsDone n all s (insertion_of (decimal (value form n v)) s.kept)

-- a number is within bounds, and its text is not longer than they say
pub record IsWithin (span : NumberSpan) (x : ℤ) : Type 0 where
  pub least : span.least ≤ℤ x
  pub most : x ≤ℤ span.most
  pub some : 1 ≤ length (decimal x)
  pub few : length (decimal x) ≤ span.long

-- where the constraints of a case hold, and a number is within bounds, these hold
abbrev pub AreWithin : Case → List Term → NumberSpan → List (List Term) → Type 0
AreWithin case form span constraints =
    (n : ℕ) (v : Valuation)
    → All (Holds n v) case.constraints.items → span.least ≤ℤ value form n v → value form n v ≤ℤ span.most
    → All (Holds n v) constraints

-- a form is how many characters the buffer has room for when it has so many more
abbrev pub IsLeftBehind : Case → ℕ → List Term → Type 0
IsLeftBehind case long form =
    (n : ℕ) (v : Valuation) (s : Point)
    → IsTrueOf n v case s → value form n v ≡ pos LIMIT -ℤ pos (length s.kept.text) -ℤ pos long

-- the buffer has room for a number that is within bounds
abbrev pub FitsIn : NumberSpan → ℕ → Valuation → List Term → Point → Type 0
FitsIn span n v form s =
    span.least ≤ℤ value form n v → value form n v ≤ℤ span.most → length s.kept.text + span.long ≤ LIMIT

-- it has, if a guarded condition holds
abbrev pub HasRoomFor : Case → List Term → NumberSpan → Guarded → Type 0
HasRoomFor case form span guarded =
    (n : ℕ) (v : Valuation) (s : Point) → IsTrueOf n v case s → IsGuarded n v guarded → FitsIn span n v form s

-- or if some do
abbrev pub HasRoomWithin : Case → List Term → List Guarded → NumberSpan → Type 0
HasRoomWithin case form asked span =
    (n : ℕ) (v : Valuation) (s : Point) → IsTrueOf n v case s → All (IsGuarded n v) asked → FitsIn span n v form s

-- where a number of 32 bits is within bounds, and the buffer has room for it, no code comes of its insertion, and the
-- state behind is described
abbrev pub InsertsWithin : (ℕ → Point → Type 0) → Case → List Term → NumberSpan → Type 0
InsertsWithin IsDescribed case form span =
    (n : ℕ) (v : Valuation) (s : Point)
    → IsTrueOf n v case s → IsWhole s.kept → FitsSigned w32 (value form n v) → IsWithin span (value form n v)
    → length s.kept.text + span.long ≤ LIMIT
    → Succeeds (λ effect. IsDescribed n (commanded s effect.kept effect.answer))
    (insertion_of (decimal (value form n v)) s.kept)

-- by a case,
abbrev pub IsWritten : Case → List Term → NumberSpan → Case → Type 0
IsWritten case form span after = InsertsWithin (λ n s. Describes n after s) case form span

-- or by one of some
abbrev pub IsWrittenAmong : Case → List Term → List Case → NumberSpan → Type 0
IsWrittenAmong case form cases span =
    InsertsWithin (λ n s. Any (λ case. Describes n case s) cases) case form span
