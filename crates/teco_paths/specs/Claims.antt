-- What is claimed at a cut point.
use Rattle.std.specs.Prelude.{◌≡◌, ◌≢◌, ℕ, ◌≤◌, List, [], Bool, false, is_some, Option, None, slice_index_or}
use Rattle.std.specs.Prelude.{Some, if◌then◌else◌}
use Rattle.std.specs.List.{All, Any}
use Rattle.teco_base.specs.declared.TheConstants.{LIMIT}
use Rattle.teco_linear.specs.declared.term.Term.{Term}
use Rattle.teco_linear.specs.Form.{Valuation, value}
use Rattle.teco_linear.specs.Implied.{Holds}
use Rattle.teco_model.specs.laws.Whole.{IsWhole}
use Rattle.teco_rows.specs.declared.case.Case.{Case}
use Rattle.teco_rows.specs.declared.measure.Measure.{Measure}
use Rattle.teco_rows.specs.Cases.{value_if}
use Rattle.teco_rows.specs.Measures.{place}
use Rattle.teco_rows.specs.States.{Point, Describes, IsShape, IsTrueOf, measures_of}
use Rattle.teco_paths.specs.declared.cut.CutState.{CutState}
use Rattle.teco_paths.specs.Symbols.{numbers_of}
use Rattle.teco_poly.specs.Polynomial as poly
use Rattle.teco_poly.specs.Polynomial.{Polynomial}

-- A claim holds at a state: its form is at least 0, where each symbol is the measure in its place.
abbrev pub ClaimHolds : ℕ → Point → List Term → Type 0
ClaimHolds n s claim = Holds n (numbers_of s) claim

-- a state has just the measures in the places that are marked
abbrev pub HasPresent : List Bool → Point → Type 0
HasPresent present s = (m : Measure) → is_some (measures_of s m) ≡ slice_index_or present (place m) false

-- A state is as a cut point says: of its shape, with its measures, and all of its claims hold.
pub record AreClaimed (n : ℕ) (cut : CutState) (s : Point) : Type 0 where
  pub shape : IsShape cut.shape s
  pub present : HasPresent cut.present.items s
  pub claims : All (ClaimHolds n s) cut.claims.items

-- no cut point is at a node
abbrev pub HasNoCut : List CutState → ℕ → Type 0
HasNoCut cuts number = All (λ cut. cut.number ≢ number) cuts

-- what is said of a state at a node: where cut points are there, it is as one of these says
abbrev pub IsSaid : List CutState → ℕ → ℕ → Point → Type 0
IsSaid cuts n number s =
    Any (λ cut. cut.number ≡ number) cuts → Any (λ cut. (cut.number ≡ number) × AreClaimed n cut s) cuts

-- so it is of each state that a case describes
abbrev pub AreSaid : List CutState → ℕ → Case → Type 0
AreSaid cuts number case = (n : ℕ) (s : Point) → Describes n case s → IsSaid cuts n number s

-- in each place that is marked stands the symbol of its number, and in the others none
abbrev pub AreSymbols : List Bool → List (Option (List Term)) → Type 0
AreSymbols present forms =
    (n : ℕ) (v : Valuation) (k : ℕ)
    → value_if (slice_index_or forms k None) n v ≡ (if slice_index_or present k false then Some (v k) else None)

-- what is claimed at a cut point makes all of these hold, at a whole state, where the size may be held
abbrev pub AreKnown : Polynomial → CutState → List (List Term) → Type 0
AreKnown size cut all =
    (n : ℕ) (s : Point)
    → IsWhole s.kept → poly.value size n ≤ LIMIT → All (ClaimHolds n s) cut.claims.items → All (ClaimHolds n s) all

-- a case describes each whole state that is as a cut point says, where the size may be held
abbrev pub IsCaseOf : Polynomial → CutState → Case → Type 0
IsCaseOf size cut case =
    (n : ℕ) (s : Point)
    → IsWhole s.kept → poly.value size n ≤ LIMIT → AreClaimed n cut s → IsTrueOf n (numbers_of s) case s

-- forms are marked just where they are there
abbrev pub ArePresent : List Bool → List (Option (List Term)) → Type 0
ArePresent present forms =
    (k : ℕ) → slice_index_or present k false ≡ is_some (slice_index_or forms k None)

-- the form in a place, and 0 where there is none
abbrev pub filled_by : Option (List Term) → List Term
filled_by None = []
filled_by (Some form) = form

-- forms have the values of those in their places, and 0 where there is none
abbrev pub AreFilled : List (Option (List Term)) → List (List Term) → Type 0
AreFilled forms filled =
    (n : ℕ) (v : Valuation) (k : ℕ)
    → value (slice_index_or filled k []) n v ≡ value (filled_by (slice_index_or forms k None)) n v

-- each state that a case describes is as a cut point says
abbrev pub ComesTo : Case → CutState → Type 0
ComesTo case cut = (n : ℕ) (v : Valuation) (s : Point) → IsTrueOf n v case s → AreClaimed n cut s
