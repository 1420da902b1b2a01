-- Rows that change what is kept and what is unread, and no more; and what is answered then.
use Rattle.std.specs.Prelude.{◌≡◌, ℕ, ℤ, List, [], ◌∷◌, length, Option, Some, None, Result, slice_index_or}
use Rattle.teco_base.specs.declared.code.Code.{Code}
use Rattle.teco_linear.specs.declared.term.Term.{Term}
use Rattle.teco_linear.specs.Form.{Valuation, value}
use Rattle.teco_model.specs.Effect.{Effect}
use Rattle.teco_model.specs.State.{Kept}
use Rattle.teco_rows.specs.declared.case.Case.{Case}
use Rattle.teco_rows.specs.declared.levels.TheConstants.{NO, VALUE}
use Rattle.teco_rows.specs.declared.measure.Measure.{Measure}
use Rattle.teco_rows.specs.declared.row.Clause.{Clause}
use Rattle.teco_rows.specs.declared.row.Clause.TheVariants.{Sets}
use Rattle.teco_rows.specs.declared.row.Places.{Places}
use Rattle.teco_rows.specs.declared.outcomes.Outcomes.{Outcomes}
use Rattle.teco_rows.specs.Cases.{Agree}
use Rattle.teco_rows.specs.Commands.{commanded}
use Rattle.teco_rows.specs.Foretold.{Describe, Succeeds}
use Rattle.teco_rows.specs.Rows.{AreMet, Before, changed}
use Rattle.teco_rows.specs.States.{Point, IsTrueOf, Describes, measures_of}

-- the state with so many steps done, this kept, and so much unread
abbrev pub with_steps : Point → ℕ → Kept → ℕ → Point
with_steps s steps kept unread = record s { steps = steps; kept = kept; unread = unread }

-- with as many steps as before
abbrev pub with_page : Point → Kept → ℕ → Point
with_page s kept unread = with_steps s s.steps kept unread

-- and with as much unread as before
abbrev pub with_kept : Point → Kept → Point
with_kept s kept = with_page s kept s.unread

-- A row holds from a state to another, with as many pairs pushed.
pub record Changes (row : List Clause) (b : Before) (s t : Point) : Type 0 where
  pub met : AreMet row b
  pub becomes : (m : Measure) → measures_of t m ≡ changed row b m (measures_of s m)
  pub pushes : length t.kept.registers.stack ≡ length s.kept.registers.stack

-- a row is read with the values of forms, and some places at hand
abbrev pub read_given : List (List Term) → ℕ → Valuation → Point → (ℕ → ℤ) → Places → Before
read_given given n v s unknown here = record {
  here = here;
  measures = measures_of s;
  given = λ i. value (slice_index_or given i []) n v;
  unknown = unknown;
}

-- a case made of another describes a state, with values that differ at most at new symbols
abbrev pub DescribesFrom : ℕ → Case → Valuation → Case → Point → Type 0
DescribesFrom n case v made s = (w : Valuation) × Agree case.symbols v w × IsTrueOf n w made s

-- Where a row does, the other case describes the state with so many steps done, this kept, and so much unread, with
-- values that differ at most at new symbols,
abbrev pub IsChangedFrom : Case → List Clause → List (List Term) → Case → Type 0
IsChangedFrom case row given made =
    (n : ℕ) (v : Valuation) (s : Point) (steps : ℕ) (kept : Kept) (unread : ℕ) (unknown : ℕ → ℤ)
    → IsTrueOf n v case s
    → ((here : Places) → Changes row (read_given given n v s unknown here) s (with_steps s steps kept unread))
    → DescribesFrom n case v made (with_steps s steps kept unread)

-- or with as many steps as before, and some values
abbrev pub IsChanged : Case → List Clause → List (List Term) → Case → Type 0
IsChanged case row given made =
    (n : ℕ) (v : Valuation) (s : Point) (kept : Kept) (unread : ℕ) (unknown : ℕ → ℤ)
    → IsTrueOf n v case s
    → ((here : Places) → Changes row (read_given given n v s unknown here) s (with_page s kept unread))
    → Describes n made (with_page s kept unread)

-- the row of an answer
abbrev pub answer_row : Option ℤ → List Clause
answer_row None = []
answer_row (Some x) = Sets VALUE x (NO, NO, NO, NO) ∷ []

-- a case describes the state a step later, where the arguments are taken and this is answered, or nothing
abbrev pub IsTold : Case → Option ℤ → Case → Type 0
IsTold case answer made =
    (n : ℕ) (v : Valuation) (s : Point) → IsTrueOf n v case s → Describes n made (commanded s s.kept answer)

-- Where it begins so, what is done comes to no code, and one of the cases describes the state behind.
abbrev pub IsDone : ℕ → Outcomes → Point → Result Effect Code → Type 0
IsDone n all s done = Succeeds (λ effect. Describe n all (commanded s effect.kept effect.answer)) done
