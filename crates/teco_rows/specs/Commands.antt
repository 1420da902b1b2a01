-- What commands make of states, by the arguments that they take.
use Rattle.std.specs.Prelude.{◌≡◌, ℕ, ◌<◌, ℤ, List, ◌++◌, length, Option, None, Ok, Result, [], slice_index_or}
use Rattle.teco_linear.specs.declared.term.Term.{Term}
use Rattle.teco_linear.specs.Form.{Valuation, value}
use Rattle.teco_base.specs.declared.code.Code.{Code}
use Rattle.teco_model.specs.Arguments.{arguments_of, final_value, levels_after_taking, levels_after_answer}
use Rattle.teco_model.specs.Effect.{Effect}
use Rattle.teco_model.specs.Going.{after}
use Rattle.teco_model.specs.State.{Kept}
use Rattle.teco_model.specs.declared.arguments.Taken as model
use Rattle.teco_rows.specs.declared.case.Case.{Case}
use Rattle.teco_rows.specs.declared.commands.TakenForms.{TakenForms}
use Rattle.teco_rows.specs.declared.commands.Way.{Way}
use Rattle.teco_rows.specs.declared.measure.Measure.{Measure}
use Rattle.teco_rows.specs.declared.outcomes.Outcomes.{Outcomes}
use Rattle.teco_rows.specs.declared.row.Clause.{Clause}
use Rattle.teco_rows.specs.declared.row.Places.{Places}
use Rattle.teco_rows.specs.Rows.{Before, changed, AreMet}
use Rattle.teco_rows.specs.Cases.{value_if}
use Rattle.teco_rows.specs.States.{Point, IsShape, IsTrueOf, Describes, behind, measures_of}
use Rattle.teco_rows.specs.Foretold.{Begins, Describe, Succeeds}

-- the innermost level ends with the value that a form is, or with none
abbrev pub EndsWith : Case → Option (List Term) → Type 0
EndsWith case form =
    (n : ℕ) (v : Valuation) (s : Point)
    → IsTrueOf n v case s → final_value s.arguments.level ≡ Ok (value_if form n v)

-- the arguments that forms are
abbrev pub taken_by : TakenForms → ℕ → Valuation → model.Taken
taken_by taken n v = record { first = value_if taken.first n v; value = value_if taken.value n v }

-- a command takes no code, but the arguments that forms are
abbrev pub IsTaken : Case → TakenForms → Type 0
IsTaken case taken =
    (n : ℕ) (v : Valuation) (s : Point)
    → IsTrueOf n v case s → arguments_of s.arguments.level ≡ Ok (taken_by taken n v)

-- the places at hand name the innermost level
abbrev pub IsAtLevel : Places → Case → Type 0
IsAtLevel here case = (s : Point) → IsShape case.shape s → here.level ≡ length s.arguments.outer

-- the state behind a command that keeps this, and answers this or nothing
abbrev pub commanded : Point → Kept → Option ℤ → Point
commanded s kept answer =
    behind s (after kept (levels_after_answer answer (levels_after_taking s.arguments)))

-- A row holds from the state in which the arguments are taken to the state behind the command; what is pushed stays.
pub record Leads (row : List Clause) (before : Before) (s : Point) (kept : Kept) (answer : Option ℤ) : Type 0 where
  pub met : AreMet row before
  pub becomes : (m : Measure)
      → measures_of (commanded s kept answer) m ≡ changed row before m (measures_of (commanded s s.kept None) m)
  pub pushes : length kept.registers.stack ≡ length s.kept.registers.stack

-- where a row leads to the state behind the command, the case describes that
abbrev pub IsCommanded : Case → List Clause → List (List Term) → Places → Case → Type 0
IsCommanded case row given here after =
    (n : ℕ) (v : Valuation) (s : Point) (kept : Kept) (answer : Option ℤ) (unknown : ℕ → ℤ)
    → IsTrueOf n v case s
    → Leads row
    (record {
      here = here;
      measures = measures_of s;
      given = λ i. value (slice_index_or given i []) n v;
      unknown = unknown;
    })
    s kept answer
    → Describes n after (commanded s kept answer)

-- the row of a way
abbrev pub row_of : Way → List Clause
row_of way = way.answers.now ++ way.does.now

-- each case is behind the way in its place
pub record AreCommanded
    (case : Case) (ways : List Way) (given : List (List Term)) (here : Places) (cases : List Case) : Type 0 where
  pub count : length cases ≡ length ways
  pub commanded : (i : ℕ) (way : Way) (after : Case)
      → i < length ways
      → IsCommanded case (row_of (slice_index_or ways i way)) given here (slice_index_or cases i after)

-- Where it begins so, what is done with the arguments that forms are comes to no code, and one of the cases describes
-- the state behind.
abbrev pub Performs : (model.Taken → Kept → Result Effect Code) → TakenForms → Case → Outcomes → Type 0
Performs execute taken case all =
    (n : ℕ) (v : Valuation) (s : Point)
    → Begins n v case all s
    → Succeeds (λ effect. Describe n all (commanded s effect.kept effect.answer))
    (execute (taken_by taken n v) s.kept)
