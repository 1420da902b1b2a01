-- What is asked of motions to a place.
use Rattle.std.specs.Prelude.{◌≡◌, ℕ, ◌+◌, ℤ, pos, ◌≤◌, List, length, ⊤, None}
use Rattle.teco_linear.specs.declared.term.Term.{Term}
use Rattle.teco_linear.specs.Form.{Valuation, value}
use Rattle.teco_model.specs.Motion.{motion_to}
use Rattle.teco_model.specs.Places.{place_in}
use Rattle.teco_model.specs.declared.kind.Motion.{Motion}
use Rattle.teco_model.specs.declared.kind.Motion.TheVariants.{Lines}
use Rattle.teco_rows.specs.declared.case.Case.{Case}
use Rattle.teco_rows.specs.declared.outcomes.Outcomes.{Outcomes}
use Rattle.teco_rows.specs.Commands.{commanded}
use Rattle.teco_rows.specs.Foretold.{Begins, Describe, Succeeds}
use Rattle.teco_rows.specs.States.{Point}

-- all but L name a place
abbrev pub IsToPlace : Motion → Type 0
IsToPlace Lines = ⊥
IsToPlace kind = ⊤

-- a number is a place of a text
abbrev pub IsPlace : List ℕ → ℤ → Type 0
IsPlace text x = (place : ℕ) × (x ≡ pos place) × (place ≤ length text)

-- Where it begins so, a motion with so many colons to the place that a form is comes to no code, and one of the cases
-- describes the state behind.
abbrev pub GoesTo : ℕ → List Term → Case → Outcomes → Type 0
GoesTo colons place case all =
    (n : ℕ) (v : Valuation) (s : Point)
    → Begins n v case all s
    → Succeeds (λ effect. Describe n all (commanded s effect.kept effect.answer))
    (motion_to colons (place_in s.kept.text (value place n v)) s.kept)

-- where it begins so, and a form is a place, one of the cases describes the state with the pointer there,
abbrev pub GoesFar : List Term → Case → Outcomes → Type 0
GoesFar place case all =
    (n : ℕ) (v : Valuation) (s : Point) (k : ℕ)
    → Begins n v case all s → value place n v ≡ pos k → k ≤ length s.kept.text
    → Describe n all (commanded s (record s.kept { pointer = k }) None)

-- or that is so of the next place,
abbrev pub Passes : List Term → Case → Outcomes → Type 0
Passes place case all =
    (n : ℕ) (v : Valuation) (s : Point) (k : ℕ)
    → Begins n v case all s → value place n v ≡ pos k → k ≤ length s.kept.text → k ≡ s.kept.pointer + 1
    → Describe n all (commanded s (record s.kept { pointer = k }) None)

-- or of the one before
abbrev pub Returns : List Term → Case → Outcomes → Type 0
Returns place case all =
    (n : ℕ) (v : Valuation) (s : Point) (k : ℕ)
    → Begins n v case all s → value place n v ≡ pos k → k ≤ length s.kept.text → k + 1 ≡ s.kept.pointer
    → Describe n all (commanded s (record s.kept { pointer = k }) None)
