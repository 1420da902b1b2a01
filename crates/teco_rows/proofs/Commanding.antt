-- How the arguments of a command are taken.
use Rattle.teco_rows.proofs.Prelude.{◌≡◌, ℕ, ℤ, List, [], ◌++◌, length, Option, Some, None, is_some, is_none, ◌&&◌}
use Rattle.teco_rows.proofs.Prelude.{false, Ok, slice_index_or, refl, sym, ap, subst, ◌∙◌, arith, ints, Term, Valuation}
use Rattle.teco_rows.proofs.Prelude.{value, Arguments, ◌>>=◌, Operator, Level, Case, Steps, Pointer, Size, Held}
use Rattle.teco_rows.proofs.Prelude.{LineEnd, LineStart, LastLength, CodeHere, CodeBefore, Typed, EntryHeld, Number}
use Rattle.teco_rows.proofs.Prelude.{Length, Turns}
use Rattle.teco_rows.proofs.Prelude.{PushedNumber, PushedLength, First, Value, Measure, One, Each, Clause, Places}
use Rattle.teco_rows.proofs.Prelude.{RowStep, Before, Holds, changed, value_if, Point, IsLed, Describes, behind}
use Rattle.teco_rows.proofs.Prelude.{measures_of, IsAtLevel, IsCommanded, commanded}
use Rattle.teco_model.specs.Arguments.{levels_after_taking, levels_after_answer, final_value, value_at_end}
use Rattle.teco_model.specs.Arguments.{arguments_of, arguments_from}
use Rattle.teco_model.specs.Going as going
use Rattle.teco_rows.specs.declared.commands.TheConstants.{TAKES}
use Rattle.teco_rows.proofs.Pending.{level_at}
use Rattle.teco_rows.proofs.Describing.{led_on}

-- a level with an answer, or without one
abbrev pub answered : Option ℤ → Level
answered answer = record { first = None; value = answer; operator = None }

pub levels_answered : (answer : Option ℤ) (arguments : Arguments)
    → levels_after_answer answer (levels_after_taking arguments) ≡ record arguments { level = answered answer }
levels_answered None arguments = refl
levels_answered (Some x) arguments = refl

-- what is left where the arguments are taken
-- a row is read so
abbrev pub read_at : Point → Places → (ℕ → ℤ) → (ℕ → ℤ) → Before
read_at s here given unknown =
    record { here = here; measures = measures_of s; given = given; unknown = unknown }

pub takes : (s : Point) (here : Places) (given unknown : ℕ → ℤ) → here.level ≡ length s.arguments.outer → (m : Measure)
    → measures_of (commanded s s.kept None) m ≡ changed TAKES (read_at s here given unknown) m (measures_of s m)
takes s here given unknown at (One Steps) = ap Some (omega (arith, ints))
takes s here given unknown at (One Pointer) = refl
takes s here given unknown at (One Size) = refl
takes s here given unknown at (One Held) = refl
takes s here given unknown at (One LineEnd) = refl
takes s here given unknown at (One LineStart) = refl
takes s here given unknown at (One LastLength) = refl
takes s here given unknown at (One CodeHere) = refl
takes s here given unknown at (One CodeBefore) = refl
takes s here given unknown at (One Typed) = refl
takes s here given unknown at (One EntryHeld) = refl
takes s here given unknown at (Each Number i) = refl
takes s here given unknown at (Each Length i) = refl
takes s here given unknown at (Each Turns i) = refl
takes s here given unknown at (Each PushedNumber i) = refl
takes s here given unknown at (Each PushedLength i) = refl
takes s here given unknown at (Each First i) =
    level_at s.arguments.level (answered None) s.arguments.outer here.level i (λ l. l.first) None at refl
takes s here given unknown at (Each Value i) =
    level_at s.arguments.level (answered None) s.arguments.outer here.level i (λ l. l.value) None at refl

pub is_commanded : (case after : Case) (step : RowStep) (row : List Clause) → step.clauses.now ≡ TAKES ++ row
    → IsAtLevel step.here case → IsLed case step None after
    → IsCommanded case row step.given.now step.here after
is_commanded case after step row clauses at led n v s kept answer unknown true_of leads =
    let given = λ (i : ℕ). value (slice_index_or step.given.now i []) n v in
    let b = read_at s step.here given unknown in
    let level = answered answer in
    let t = behind s (going.after kept (record s.arguments { level = level })) in
    let same : commanded s kept answer ≡ t =
    ap (λ a. behind s (going.after kept a)) (levels_answered answer s.arguments) in
    let holds : Holds (TAKES ++ row) b (measures_of (commanded s kept answer)) =
    record {
      met = leads.met;
      becomes = λ m.
          leads.becomes m
          ∙ ap (changed row b m) (takes s step.here given unknown (at s true_of.shape) m);
    } in
    subst (Describes n after) (sym same)
    (led_on n v case after step s kept level unknown led true_of leads.pushes
    (subst (λ r. Holds r b (measures_of t)) (sym clauses) (subst (λ u. Holds (TAKES ++ row) b
    (measures_of u)) same holds)))

-- ---- what is taken
pub final_alone : (level : Level) (x : Option ℤ) → level.operator ≡ None → level.value ≡ x → final_value level ≡ Ok x
final_alone level x e f = ap (value_at_end level.value) e ∙ ap Ok f

pub final_signed : (level : Level) (operator : Operator) (x : Option ℤ) → level.operator ≡ Some operator
    → level.value ≡ None → value_at_end None (Some operator) ≡ Ok x → final_value level ≡ Ok x
final_signed level operator x e f sign =
    ap (value_at_end level.value) e ∙ ap (λ x. value_at_end x (Some operator)) f ∙ sign

-- a first value alone is a code
abbrev pub Stands : Option ℤ → Option ℤ → Type 0
Stands (Some x) None = ⊥
Stands first value = Unit {0}

pub taken_is : (level : Level) (first value : Option ℤ) → level.first ≡ first → final_value level ≡ Ok value
    → Stands first value → arguments_of level ≡ Ok (record { first = first; value = value })
taken_is level first value e f stands =
    ap (λ r. r >>= arguments_from level.first) f ∙ ap (λ x. arguments_from x value) e ∙ from first value stands where
      from : (x y : Option ℤ) → Stands x y → arguments_from x y ≡ Ok (record { first = x; value = y })
      from None y h = refl
      from (Some x) (Some y) h = refl
      from (Some x) None h = absurd h

pub not_alone : (first value : Option (List Term)) (n : ℕ) (v : Valuation) → (is_some first && is_none value) ≡ false
    → Stands (value_if first n v) (value_if value n v)
not_alone None value n v e = tt
not_alone (Some f) (Some g) n v e = tt
not_alone (Some f) None n v e = absurd cc
