-- What is asked of commands on pages, where the files that they need are open.
use Rattle.std.specs.Prelude.{◌≡◌, ℕ, pos, List, length, true, is_some, None, Some, Result, unwrap_or}
use Rattle.std.specs.List.{Any}
use Rattle.teco_base.specs.declared.code.Code.{Code}
use Rattle.teco_linear.specs.declared.term.Term.{Term}
use Rattle.teco_linear.specs.Form.{Valuation}
use Rattle.teco_model.specs.Element.{Element}
use Rattle.teco_model.specs.Files.{Files}
use Rattle.teco_model.specs.Pages.{behind_first_page, first_page}
use Rattle.teco_model.specs.Paging.{Progress, kept_with_page, pages}
use Rattle.teco_model.specs.State.{State, World}
use Rattle.teco_model.specs.Step.{step}
use Rattle.teco_model.specs.declared.kind.Page.{Page}
use Rattle.teco_model.specs.declared.kind.Page.TheVariants as page
use Rattle.teco_rows.specs.declared.case.Case.{Case}
use Rattle.teco_rows.specs.declared.commands.TakenForms.{TakenForms}
use Rattle.teco_rows.specs.declared.outcomes.Outcomes.{Outcomes}
use Rattle.teco_rows.specs.Cases.{value_if}
use Rattle.teco_rows.specs.Commands.{commanded, taken_by}
use Rattle.teco_rows.specs.Foretold.{Begins, Describe, Succeeds}
use Rattle.teco_rows.specs.States.{Origin, Point, IsTrueOf, Describes}
use Rattle.teco_motion_outcomes.specs.Changes.{with_page}
use Rattle.teco_flow_outcomes.specs.Law.{Goes, StandsAt, StepsTo, point_of, unread_in}

-- where one of two cases describes a state, one of these describes that behind it, and nothing is answered
pub record AreTold (one other : Case) (cases : List Case) : Type 0 where
  pub first : (n : ℕ) (s : Point) → Describes n one s → Any (λ made. Describes n made (commanded s s.kept None)) cases
  pub second : (n : ℕ) (s : Point) → Describes n other s
      → Any (λ made. Describes n made (commanded s s.kept None)) cases

-- the next page of unread bytes is in the place of the buffer
abbrev pub with_next_page : Point → List ℕ → Point
with_next_page s bytes =
    with_page s (kept_with_page (first_page bytes) s.kept) (length (behind_first_page bytes))

-- one of the cases describes that state behind the command
abbrev pub TurnsPage : Case → List Case → Type 0
TurnsPage case cases =
    (n : ℕ) (v : Valuation) (s : Point) (bytes : List ℕ)
    → IsTrueOf n v case s → s.unread ≡ length bytes
    → Any (λ made. Describes n made (commanded (with_next_page s bytes) (with_next_page s bytes).kept None)) cases

-- one of the cases describes the state behind a command that comes to a world
abbrev pub IsPaged : ℕ → Outcomes → Point → World → Type 0
IsPaged n all s world =
    Describe n all (commanded (with_page s world.kept (unread_in world.files.input)) world.kept None)

-- Where it begins so and an input is open, no code comes of what is done with it, and one of the cases describes the
-- state behind.
abbrev pub Reads : (World → Result World Code) → Case → Outcomes → Type 0
Reads done case all =
    (n : ℕ) (v : Valuation) (s : State) (steps : ℕ) (origin : Origin)
    → is_some s.world.files.input ≡ true → Begins n v case all (point_of steps origin s)
    → Succeeds (IsPaged n all (point_of steps origin s)) (done s.world)

-- a command takes no first value, and the number 1 or no value
pub record IsOnce (taken : TakenForms) : Type 0 where
  pub first : taken.first ≡ None
  pub count : (n : ℕ) (v : Valuation) → unwrap_or (value_if taken.value n v) (pos 1) ≡ pos 1

-- a long command is done with one step, and one of the cases describes the state behind
pub record IsDoneAtOnce (n : ℕ) (all : Outcomes) (s : Point) (progress : Progress) : Type 0 where
  pub left : progress.left ≡ 0
  pub described : IsPaged n all s progress.world

-- Where it begins so and an output is open, what is done page by page takes one step and comes to no code.
abbrev pub Writes : (World → Result World Code) → TakenForms → Case → Outcomes → Type 0
Writes one_page taken case all =
    (n : ℕ) (v : Valuation) (s : State) (steps : ℕ) (origin : Origin)
    → is_some s.world.files.output ≡ true → Begins n v case all (point_of steps origin s)
    → Succeeds (IsDoneAtOnce n all (point_of steps origin s)) (pages one_page (taken_by taken n v) s.world)

-- where it takes the two values that forms are, so does what is done page by page, whatever that is
abbrev pub WritesRange : List Term → List Term → Case → Outcomes → Type 0
WritesRange first second case all =
    (one_page : World → Result World Code) (taken : TakenForms)
    → taken.first ≡ Some first → taken.value ≡ Some second → Writes one_page taken case all

-- the input is open where a page is read by itself, and else the output
abbrev pub IsOpenFor : Page → Files → Type 0
IsOpenFor page.Next files = is_some files.output ≡ true
IsOpenFor page.Write files = is_some files.output ≡ true
IsOpenFor p files = is_some files.input ≡ true

-- a command begins at a state, and its file is open
pub record IsReadyFor (p : Page) (e : Element) (s : State) : Type 0 where
  pub stands : StandsAt e s
  pub begins : s.left ≡ None
  pub file : IsOpenFor p s.world.files

-- The law of a command on pages: that of each element, where its file is open.
abbrev pub PageLaw : Page → Element → Case → Outcomes → Type 0
PageLaw p e case all =
    (n : ℕ) (v : Valuation) (s : State) (steps : ℕ) (origin : Origin)
    → IsReadyFor p e s → Begins n v case all (point_of steps origin s)
    → StepsTo (Goes n all e steps origin s) (step s)
