-- What a case says of the measures of a state.
use Rattle.std.specs.Prelude.{◌≡◌, ℕ, ◌+◌, ◌<◌, ℤ, List, [], Option, None, MatchOption, ⊤}
use Rattle.std.specs.Option.{option_map}
use Rattle.std.specs.Prelude.{slice_index_or}
use Rattle.std.specs.List.{All}
use Rattle.teco_linear.specs.declared.term.Term.{Term}
use Rattle.teco_linear.specs.Form.{Valuation, value}
use Rattle.teco_linear.specs.Implied as implied
use Rattle.teco_rows.specs.declared.measure.Measure.{Measure}
use Rattle.teco_rows.specs.declared.applied.Draft.{Draft}
use Rattle.teco_rows.specs.declared.case.Case.{Case}
use Rattle.teco_rows.specs.declared.row.RowStep.{RowStep}
use Rattle.teco_rows.specs.Measures.{place}
use Rattle.teco_rows.specs.declared.row.Clause.{Clause}
use Rattle.teco_rows.specs.Rows.{Measures, Before, Holds, changed, AreMet}

-- the value of a form, if there is one
abbrev pub value_if : Option (List Term) → ℕ → Valuation → Option ℤ
value_if form n v = option_map (λ f. value f n v) form

-- the values of forms, each of the measure in whose place it stands
abbrev pub measures_by : List (Option (List Term)) → ℕ → Valuation → Measures
measures_by forms n v m = value_if (slice_index_or forms (place m) None) n v

-- With these values of the symbols each measure is its form's value, and the constraints hold.
pub record Fits (n : ℕ) (v : Valuation) (case : Case) (known : Measures) : Type 0 where
  pub measures : (m : Measure) → measures_by case.forms.items n v m ≡ known m
  pub constraints : All (implied.Holds n v) case.constraints.items

-- two valuations give the same to the symbols below a number
abbrev pub Agree : ℕ → Valuation → Valuation → Type 0
Agree symbols v w = (symbol : ℕ) → symbol < symbols → v symbol ≡ w symbol

-- a row at a state is read with the measures before, the values of what is given, and some unknown numbers
abbrev pub read_with : RowStep → ℕ → Valuation → Measures → (ℕ → ℤ) → Before
read_with step n v measures unknown = record {
  here = step.here;
  measures = measures;
  given = λ i. value (slice_index_or step.given.now i []) n v;
  unknown = unknown;
}

-- Where a case fits the measures before and a row holds, the other case fits the measures behind, with values that
-- differ at most at new symbols.
abbrev pub Carries : Case → RowStep → Case → Type 0
Carries case step after =
    (n : ℕ) (v : Valuation) (old new : Measures) (unknown : ℕ → ℤ)
    → Fits n v case old
    → Holds step.clauses.now (read_with step n v old unknown) new
    → (w : Valuation) × Agree case.symbols v w × Fits n w after new

-- what a row is read with where the case's own forms are the measures, and its next symbols the unknown numbers
abbrev pub read_by : Case → RowStep → ℕ → Valuation → Before
read_by case step n v = read_with step n v (measures_by case.forms.items n v) (λ i. v (case.symbols + i))

-- a term has no symbol, or one below a number
abbrev pub IsBelow : ℕ → Term → Type 0
IsBelow symbols term = MatchOption term.symbol ⊤ (λ symbol. symbol < symbols)

-- so have all terms of a form
abbrev pub IsAbout : ℕ → List Term → Type 0
IsAbout symbols form = All (IsBelow symbols) form

abbrev pub IsOptionallyAbout : ℕ → Option (List Term) → Type 0
IsOptionallyAbout symbols form = MatchOption form ⊤ (IsAbout symbols)

-- all forms of a case are about its symbols
pub record IsWhole (case : Case) : Type 0 where
  pub forms : All (IsOptionallyAbout case.symbols) case.forms.items
  pub constraints : All (IsAbout case.symbols) case.constraints.items

-- A case that is being made of another has what clauses make of the measures, and what they want.
pub record Adds (case : Case) (step : RowStep) (clauses : List Clause) (old new : Draft) : Type 0 where
  pub measures : (n : ℕ) (v : Valuation) (m : Measure)
      → measures_by new.forms.items n v m
      ≡ changed clauses (read_by case step n v) m (measures_by old.forms.items n v m)
  pub constraints : (n : ℕ) (v : Valuation)
      → All (implied.Holds n v) old.constraints.items → AreMet clauses (read_by case step n v)
      → All (implied.Holds n v) new.constraints.items
