-- The law of an element: what its outcomes foretell is what a step of the machine does.
use Rattle.std.specs.Prelude.{◌≡◌, ℕ, ◌+◌, ◌≤◌, List, [], ◌∷◌, ◌++◌, length, Option, Some, None, Ok, ⊤, ◌⊎◌}
use Rattle.std.specs.List.{Any}
use Rattle.teco_linear.specs.Form.{Valuation}
use Rattle.teco_model.specs.Ahead.{Whole}
use Rattle.teco_model.specs.Element.{Element, element_at}
use Rattle.teco_model.specs.Files.{Input}
use Rattle.teco_model.specs.Skip.{route_of, skip_of}
use Rattle.teco_model.specs.State.{Frame, Frames, State, Outcome, Next}
use Rattle.teco_model.specs.Step.{step}
use Rattle.teco_model.specs.declared.flow.Loop.{Loop}
use Rattle.teco_model.specs.declared.kind.Flow.TheVariants as flow
use Rattle.teco_model.specs.declared.kind.Goal.TheVariants as goal
use Rattle.teco_model.specs.declared.kind.Kind.{Kind}
use Rattle.teco_model.specs.declared.kind.Kind.TheVariants as kind
use Rattle.teco_model.specs.declared.skip.Route.{Route}
use Rattle.teco_model.specs.declared.skip.Route.TheVariants.{Nowhere}
use Rattle.teco_rows.specs.declared.case.Case.{Case}
use Rattle.teco_rows.specs.declared.outcomes.Outcomes.{Outcomes}
use Rattle.teco_rows.specs.Foretold.{Begins}
use Rattle.teco_rows.specs.States.{Origin, Point, Describes}

-- the iterations that are open in texts, the innermost first
abbrev pub loops_in : List Frame → List Loop
loops_in [] = []
loops_in (frame ∷ callers) = frame.loops ++ loops_in callers

-- how much is unread of the input, if one is open
abbrev pub unread_in : Option Input → ℕ
unread_in None = 0
unread_in (Some input) = length input.unread

-- A state as cases see it, so many steps after the entry, where there was what is said.
abbrev pub point_of : ℕ → Origin → State → Point
point_of steps origin s = record {
  steps = steps;
  unread = unread_in s.world.files.input;
  origin = origin;
  kept = s.world.kept;
  arguments = s.arguments;
  loops = s.frames.running.loops ++ loops_in s.frames.callers;
}

-- the start of the innermost body
abbrev pub body_start : List Loop → Option ℕ
body_start [] = None
body_start (loop ∷ outer) = Some loop.start

-- Where an element may go on besides behind itself: > at the start of its body, and what skips where its skip ends.
abbrev pub place_away : Kind → Element → Frame → Option ℕ
place_away (kind.Flow flow.EndTurn) e frame = body_start frame.loops
place_away k e frame = (skip_of frame.text (Whole e)).to

-- what may skip has a place to go to
abbrev pub LeadsOn : Route → Option ℕ → Type 0
LeadsOn Nowhere place = ⊤
LeadsOn route place = (there : ℕ) × (place ≡ Some there)

-- > ; and F> are of an iteration
abbrev pub IsOfIteration : Kind → List Loop → Type 0
IsOfIteration (kind.Flow flow.EndTurn) loops = 1 ≤ length loops
IsOfIteration (kind.Flow flow.Leave) loops = 1 ≤ length loops
IsOfIteration (kind.Flow (flow.GoAhead goal.EndTurn)) loops = 1 ≤ length loops
IsOfIteration k loops = ⊤

-- an element has its pair in a text
pub record IsMatched (e : Element) (frame : Frame) : Type 0 where
  pub leads : LeadsOn (route_of e.kind) (skip_of frame.text (Whole e)).to
  pub inside : IsOfIteration e.kind frame.loops

-- an element is read at the place of the running text, and has its pair there
pub record StandsAt (e : Element) (s : State) : Type 0 where
  pub reads : element_at s.frames.running.text s.frames.running.place ≡ Ok (Some e)
  pub matched : IsMatched e s.frames.running

-- the running text goes on at a place, with these iterations open
abbrev pub frames_on : ℕ → List Loop → Frames → Frames
frames_on place loops frames =
    record frames { running = record frames.running { place = place; loops = loops } }

-- one of the cases describes a state a step later, in which the running text goes on at a place
pub record Arrives (n : ℕ) (cases : List Case) (place steps : ℕ) (origin : Origin) (s t : State) : Type 0 where
  pub described : Any (λ case. Describes n case (point_of (steps + 1) origin t)) cases
  pub there : t.frames ≡ frames_on place t.frames.running.loops s.frames
  pub left : t.left ≡ s.left

-- it does so elsewhere than behind the element
abbrev pub ArrivesAway : ℕ → List Case → Element → ℕ → Origin → State → State → Type 0
ArrivesAway n cases e steps origin s t =
    (place : ℕ)
    × (place_away e.kind e s.frames.running ≡ Some place)
    × Arrives n cases place steps origin s t

-- the next state is behind the element or elsewhere, and one of the cases of that way describes it
abbrev pub Goes : ℕ → Outcomes → Element → ℕ → Origin → State → State → Type 0
Goes n all e steps origin s t =
    Arrives n all.cases.items e.next steps origin s t ⊎ ArrivesAway n all.away.items e steps origin s t

-- a step comes to a next state of a property
abbrev pub StepsTo : (State → Type 0) → Outcome → Type 0
StepsTo P (Next t) = P t
StepsTo P outcome = ⊥

-- Where a state stands at an element, a case describes it and the conditions hold, its step comes to no code, and one
-- of the cases of the way that it goes describes the next state.
abbrev pub Law : Element → Case → Outcomes → Type 0
Law e case all =
    (n : ℕ) (v : Valuation) (s : State) (steps : ℕ) (origin : Origin)
    → StandsAt e s → Begins n v case all (point_of steps origin s)
    → StepsTo (Goes n all e steps origin s) (step s)
