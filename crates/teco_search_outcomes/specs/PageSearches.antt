-- What is asked of searches over pages, N and FN. Such a search takes a step for each page that it turns, at the same
-- element, and one more that ends it. So its law is that of a search whose cases are met some steps later: where a
-- state begins it and an output is open, none of the steps comes to a code; each but the last leads to a state at the
-- element with pages left to turn, which has the registers of the first and holds no more; and one of the cases
-- describes the state behind the last, with all of them counted.
use Rattle.std.specs.Prelude.{◌≡◌, ℕ, zero, suc, ◌+◌, ◌≤◌, ℤ, pos, negsuc, ◌≤ℤ◌, List, [], ◌∷◌, ◌++◌, length, Bool}
use Rattle.std.specs.Prelude.{true}
use Rattle.std.specs.Prelude.{is_some, if◌then◌else◌, unwrap_or, Option, Some, None, Ok}
use Rattle.std.specs.List.{All}
use Rattle.teco_base.specs.declared.TheConstants.{LIMIT}
use Rattle.teco_linear.specs.declared.term.Term.{Term}
use Rattle.teco_linear.specs.Form.{Valuation}
use Rattle.teco_linear.specs.Implied.{Holds}
use Rattle.teco_model.specs.Element.{Element, element_at}
use Rattle.teco_model.specs.Pattern.{parts}
use Rattle.teco_model.specs.State.{Kept, Outcome, State}
use Rattle.teco_model.specs.Step.{step}
use Rattle.teco_model.specs.laws.Whole.{IsWholeWorld}
use Rattle.teco_rows.specs.declared.case.Case.{Case}
use Rattle.teco_rows.specs.declared.outcomes.Outcomes.{Outcomes}
use Rattle.teco_rows.specs.Cases.{value_if}
use Rattle.teco_rows.specs.Foretold.{Begins}
use Rattle.teco_rows.specs.States.{Origin, Point, IsTrueOf, Describes}
use Rattle.teco_motion_outcomes.specs.Changes.{DescribesFrom, IsTold, with_steps}
use Rattle.teco_flow_outcomes.specs.Law.{Goes, StepsTo, point_of, unread_in}
use Rattle.teco_search_outcomes.specs.Searches.{Ends, IsAsked, TakesNumber}
use Rattle.teco_search_outcomes.specs.declared.page_searches.BegunInPages.{BegunInPages}
use Rattle.teco_search_outcomes.specs.declared.page_searches.PageMatches.{PageMatches}

-- ---- the law
-- how much is held, in the buffer and unread
abbrev pub held_in : State → ℕ
held_in s = length s.world.kept.text + unread_in s.world.files.input

-- A state is at the same element as another, with pages left to turn; it has the same registers, and holds no more.
pub record IsStill (s t : State) : Type 0 where
  pub frames : t.frames ≡ s.frames
  pub left : is_some t.left ≡ true
  pub registers : t.world.kept.registers ≡ s.world.kept.registers
  pub held : held_in t ≤ held_in s

-- What a step comes to leads on for so many steps more, and the last of them to a state of a property.
abbrev pub Comes : ℕ → (State → Type 0) → State → Outcome → Type 0
Comes zero P s outcome = StepsTo P outcome
Comes (suc more) P s outcome = StepsTo (λ next. IsStill s next × Comes more P s (step next)) outcome

abbrev pub LongLaw : Bool → Element → Case → Outcomes → Type 0
LongLaw answers e case all =
    (n : ℕ) (v : Valuation) (s : State) (steps : ℕ) (origin : Origin)
    → element_at s.frames.running.text s.frames.running.place ≡ Ok (Some e)
    → IsAsked answers e s.frames.running → s.left ≡ None → is_some s.world.files.output ≡ true
    → IsWholeWorld s.world → Begins n v case all (point_of steps origin s)
    → (more : ℕ) × Comes more (Goes n all e (steps + more) origin s) s (step s)

-- ---- what is asked of cases
-- some pages later one of them is in the place of the buffer
pub record HasTurned (s : Point) (pages : ℕ) (kept : Kept) (rest : ℕ) : Type 0 where
  pub some : 1 ≤ pages
  pub left : pages + rest ≤ s.unread
  pub within : length kept.text + rest ≤ s.unread
  pub pointer : kept.pointer ≡ 0
  pub registers : kept.registers ≡ s.kept.registers
  pub last : kept.last_length ≡ s.kept.last_length
  pub typed : kept.typed ≡ s.kept.typed

abbrev pub IsLaterPage : Case → Case → Type 0
IsLaterPage case made =
    (n : ℕ) (v : Valuation) (s : Point) (pages : ℕ) (kept : Kept) (rest : ℕ)
    → IsTrueOf n v case s → HasTurned s pages kept rest
    → DescribesFrom n case v made (with_steps s (s.steps + pages) kept rest)

-- so many pages later none is left, and the buffer is empty
pub record HasEmptied (s : Point) (pages : ℕ) (kept : Kept) (rest : ℕ) : Type 0 where
  pub left : pages ≤ s.unread
  pub none : rest ≡ 0
  pub text : kept.text ≡ []
  pub pointer : kept.pointer ≡ 0
  pub registers : kept.registers ≡ s.kept.registers
  pub last : kept.last_length ≡ s.kept.last_length
  pub typed : kept.typed ≡ s.kept.typed

abbrev pub IsThrough : Case → Case → Type 0
IsThrough case made =
    (n : ℕ) (v : Valuation) (s : Point) (pages : ℕ) (kept : Kept) (rest : ℕ)
    → IsTrueOf n v case s → HasEmptied s pages kept rest
    → Describes n made (with_steps s (s.steps + pages) kept rest)

-- under the conditions so many matches are wanted, one at least
abbrev pub IsPositive : Option (List Term) → List (List Term) → Type 0
IsPositive number conditions =
    (n : ℕ) (v : Valuation) → All (Holds n v) conditions → pos 1 ≤ℤ unwrap_or (value_if number n v) (pos 1)

-- under the conditions what is unread has room in a buffer
abbrev pub HasPageRoom : Case → List (List Term) → Type 0
HasPageRoom case conditions =
    (n : ℕ) (v : Valuation) (s : Point) → IsTrueOf n v case s → All (Holds n v) conditions → s.unread ≤ LIMIT

-- What a search over pages begins with. It takes one number or none, and has a text.
pub record IsBegunInPages (e : Element) (case : Case) (begun : BegunInPages) : Type 0 where
  pub number : Option (List Term)
  pub takes : TakesNumber case number
  pub some : 1 ≤ length e.text
  pub read : parts e.text ≡ Ok begun.parts.items
  pub positive : IsPositive number begun.conditions.items
  pub room : HasPageRoom case begun.conditions.items
  pub later : IsLaterPage case begun.on
  pub symbols : case.symbols ≤ begun.on.symbols
  pub passes : IsThrough case begun.gone

-- what is answered where a match is found
abbrev pub answer_of : Bool → Option ℤ
answer_of answers = if answers then Some (negsuc 0) else None

-- outcomes have one case more, that of what is found later
pub record HasMore (answers : Bool) (later : Case) (old new : Outcomes) : Type 0 where
  pub conditions : new.conditions.items ≡ old.conditions.items
  pub guarded : new.guarded.items ≡ old.guarded.items
  pub away : new.away.items ≡ old.away.items
  pub case : Case
  pub told : IsTold later (answer_of answers) case
  pub cases : new.cases.items ≡ old.cases.items ++ case ∷ []

-- a search over pages that finds these matches ends so
pub record EndsInPages (answers : Bool) (begun : BegunInPages) (found : PageMatches) (all : Outcomes) : Type 0 where
  pub conditions : all.conditions.items ≡ begun.conditions.items
  pub guarded : all.guarded.items ≡ found.guarded.items
  pub here : Ends answers found.here begun.gone all
  pub later : Ends answers found.later begun.gone all
