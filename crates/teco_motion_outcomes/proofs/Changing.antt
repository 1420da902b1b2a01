-- Rows that change what is kept and what is unread, and what is answered.
use Rattle.teco_motion_outcomes.proofs.Prelude.{◌≡◌, ℕ, ◌+◌, ℤ, pos, List, [], length, Option, Some, None}
use Rattle.teco_motion_outcomes.proofs.Prelude.{slice_index_or, refl, sym, ap, subst, ◌∙◌, arith, true, slice_get}
use Rattle.teco_motion_outcomes.proofs.Prelude.{ints, Term, value, Kept, Case, Number, Length, Turns, PushedNumber}
use Rattle.teco_motion_outcomes.proofs.Prelude.{PushedLength, First, Value, One, Each, Single, Steps, Pointer, Size}
use Rattle.teco_motion_outcomes.proofs.Prelude.{Held, LineEnd, LineStart, LastLength, CodeHere, CodeBefore, Typed}
use Rattle.teco_motion_outcomes.proofs.Prelude.{EntryHeld}
use Rattle.teco_motion_outcomes.proofs.Prelude.{Clause, Places, IsAtLevel, IsCommanded, Leads, commanded, AreMet}
use Rattle.teco_motion_outcomes.proofs.Prelude.{Before, changed, Point, length_of, number_of, single, read_at, answers}
use Rattle.teco_motion_outcomes.proofs.Prelude.{is_of_singles, leads, leaves, left_alone}
use Rattle.std.proofs.Common.{◌&&◌}
use Rattle.teco_model.specs.declared.arguments.Operator.{Operator}
use Rattle.teco_rows.specs.declared.measure.Measure.{Measure}
use Rattle.teco_rows.specs.declared.row.RowStep.{RowStep}
use Rattle.teco_rows.specs.States.{IsLed, WaitsFor, from_end, measures_of, operators_of}
use Rattle.teco_rows.proofs.Leading.{left_of, right_of}
use Rattle.teco_motion_outcomes.specs.Changes.{Changes, IsChanged, IsChangedFrom, IsTold, answer_row, with_page}
use Rattle.teco_motion_outcomes.specs.Changes.{with_steps}

-- ---- a row that changes what is kept and what is unread
pub is_changed : (case made : Case) (step : RowStep) (operator : Option Operator) → WaitsFor operator case
    → IsLed case step operator made → IsChangedFrom case step.clauses.now step.given.now made
is_changed case made step operator waits led n v s steps kept unread unknown true_of changes =
    let h = changes step.here in
    let here = subst (λ o. IsLed case step o made) (sym (waits s true_of.shape)) led in
    let carried = led.carries n v (measures_of s) (measures_of (with_steps s steps kept unread)) unknown true_of.fits
    (record { met = h.met; becomes = h.becomes }) in (
      carried.0,
      carried.1,
      record {
        fits = carried.2;
        shape = record {
          operators = here.last (operators_of s.arguments.outer) s.arguments.level.operator true_of.shape.operators;
          iterations = led.iterations ∙ true_of.shape.iterations;
          pushes = ap (λ k. s.origin.pushes + k) led.pushes ∙ true_of.shape.pushes ∙ sym h.pushes;
        };
      },
    )

pub changes_plainly : (case made : Case) (row : List Clause) (given : List (List Term))
    → IsChangedFrom case row given made → IsChanged case row given made
changes_plainly case made row given from n v s kept unread unknown true_of changes =
    let d = from n v s s.steps kept unread unknown true_of changes in (d.0, d.2)

-- A row that says nothing but of what a state has once, where registers stay.
pub changes_later : (row : List Clause) (b : Before) (s : Point) (steps : ℕ) (kept : Kept) (unread : ℕ)
    → kept.registers ≡ s.kept.registers → is_of_singles row ≡ true → AreMet row b
    → ((which : Single) → Some (single (with_steps s steps kept unread) which)
    ≡ changed row b (One which) (Some (single s which)))
    → Changes row b s (with_steps s steps kept unread)
changes_later row b s steps kept unread same of met singles = record {
  met = met;
  becomes = becomes;
  pushes = ap (λ r. length r.stack) same;
} where
  texts : (leaves Number row && leaves Length row) ≡ true
  texts = left_of (leaves Number row && leaves Length row) _ of

  levels : (leaves Turns row && leaves First row) ≡ true
  levels = left_of (leaves Turns row && leaves First row) _ (right_of (leaves Number row && leaves Length row) _ of)

  rest : (leaves Value row && (leaves PushedNumber row && leaves PushedLength row)) ≡ true
  rest = right_of (leaves Turns row && leaves First row) _ (right_of (leaves Number row && leaves Length row) _ of)

  pushes : (leaves PushedNumber row && leaves PushedLength row) ≡ true
  pushes = right_of (leaves Value row) _ rest

  becomes : (m : Measure) → measures_of (with_steps s steps kept unread) m ≡ changed row b m (measures_of s m)
  becomes (One which) = singles which
  becomes (Each Number i) =
      ap (λ r. number_of (slice_get r.pairs i)) same ∙ left_alone row b Number i _ (left_of (leaves Number row) _ texts)
  becomes (Each Length i) =
      ap (λ r. length_of (slice_get r.pairs i)) same
      ∙ left_alone row b Length i _ (right_of (leaves Number row) _ texts)
  becomes (Each Turns i) = left_alone row b Turns i _ (left_of (leaves Turns row) _ levels)
  becomes (Each PushedNumber i) =
      ap (λ r. number_of (from_end r.stack (s.origin.pushes + i))) same
      ∙ left_alone row b PushedNumber i _ (left_of (leaves PushedNumber row) _ pushes)
  becomes (Each PushedLength i) =
      ap (λ r. length_of (from_end r.stack (s.origin.pushes + i))) same
      ∙ left_alone row b PushedLength i _ (right_of (leaves PushedNumber row) _ pushes)
  becomes (Each First i) = left_alone row b First i _ (right_of (leaves Turns row) _ levels)
  becomes (Each Value i) = left_alone row b Value i _ (left_of (leaves Value row) _ rest)

pub changes_singles : (row : List Clause) (b : Before) (s : Point) (kept : Kept) (unread : ℕ)
    → kept.registers ≡ s.kept.registers → is_of_singles row ≡ true → AreMet row b
    → ((which : Single) → Some (single (with_page s kept unread) which)
    ≡ changed row b (One which) (Some (single s which)))
    → Changes row b s (with_page s kept unread)
changes_singles row b s kept unread same of met singles =
    changes_later row b s s.steps kept unread same of met singles

-- ---- what is answered
module _ (s : Point) (here : Places) (given unknown : ℕ → ℤ) where
  stays : (answer : Option ℤ) (which : Single)
      → Some (single (commanded s s.kept answer) which) ≡ Some (single (commanded s s.kept None) which)
  stays answer Steps = refl
  stays answer Pointer = refl
  stays answer Size = refl
  stays answer Held = refl
  stays answer LineEnd = refl
  stays answer LineStart = refl
  stays answer LastLength = refl
  stays answer CodeHere = refl
  stays answer CodeBefore = refl
  stays answer Typed = refl
  stays answer EntryHeld = refl

  leads_to_answer : (answer : Option ℤ) → here.level ≡ length s.arguments.outer
      → Leads (answer_row answer) (read_at s here given unknown) s s.kept answer
  leads_to_answer None at = leads [] _ s s.kept None refl refl refl refl (record {
    met = tt;
    singles = stays None;
    numbers = λ i. refl;
    lengths = λ i. refl;
    values = λ i. refl;
    stack = refl;
  })
  leads_to_answer (Some x) at = leads (answer_row (Some x)) _ s s.kept (Some x) refl refl refl refl (record {
    met = tt;
    singles = stays (Some x);
    numbers = λ i. refl;
    lengths = λ i. refl;
    values = λ i. answers s s.kept here i x _ at (ap Some (omega (arith, ints)));
    stack = refl;
  })

pub tells : (case made : Case) (answer : Option ℤ) (row : List Clause) (given : List (List Term)) (here : Places)
    → row ≡ answer_row answer → IsAtLevel here case → IsCommanded case row given here made → IsTold case answer made
tells case made answer row given here e at led n v s true_of =
    led n v s s.kept answer (λ i. pos 0) true_of
    (subst (λ r. Leads r (read_at s here (λ i. value (slice_index_or given i []) n v) (λ i. pos 0)) s s.kept answer)
    (sym e) (leads_to_answer s here _ (λ i. pos 0) answer (at s true_of.shape)))
