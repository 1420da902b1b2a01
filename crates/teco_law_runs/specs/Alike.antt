-- States that are the same but for the text of the command string: in both that only waits at its end, or calls the
-- same macro before its end.
use Rattle.std.specs.Prelude.{◌≡◌, ℕ, List, [], ◌∷◌, Option, Some, None, option_map, Ok}
use Rattle.teco_model.specs.declared.kind.Call.{Call}
use Rattle.teco_model.specs.declared.kind.Kind.{Kind}
use Rattle.teco_model.specs.declared.kind.Kind.TheVariants as kind
use Rattle.teco_model.specs.Element.{Element, element_at}
use Rattle.teco_model.specs.Run.{run}
use Rattle.teco_model.specs.State.{Frame, State, Outcome, Next, End, Exit, Fail, Absent}
use Rattle.teco_model.specs.Step.{step}

-- a text at its end, with no iteration open
pub record Waits (frame : Frame) : Type 0 where
  pub closed : frame.loops ≡ []
  pub over : element_at frame.text frame.place ≡ Ok None

-- a text at a call, behind which it is at its end
pub record CallsLast (c : Call) (frame : Frame) : Type 0 where
  pub element : Element
  pub reads : element_at frame.text frame.place ≡ Ok (Some element)
  pub calls : element.kind ≡ kind.Call c
  pub behind : Waits (record frame { place = element.next })

pub data AreAtBottom (a b : Frame) : Type 0 where
  Waiting : Waits a → Waits b → AreAtBottom a b
  Calling : (c : Call) → CallsLast c a → CallsLast c b → AreAtBottom a b

-- texts are alike above alike ones
abbrev pub AreTextsAlike : Frame → List Frame → Frame → List Frame → Type 0
AreTextsAlike a [] b [] = AreAtBottom a b
AreTextsAlike a (c ∷ callers) b (d ∷ others) = (a ≡ b) × AreTextsAlike c callers d others
AreTextsAlike a [] b (d ∷ others) = ⊥
AreTextsAlike a (c ∷ callers) b [] = ⊥

pub record AreAlike (s t : State) : Type 0 where
  pub world : s.world ≡ t.world
  pub arguments : s.arguments ≡ t.arguments
  pub left : s.left ≡ t.left
  pub texts : AreTextsAlike s.frames.running s.frames.callers t.frames.running t.frames.callers

-- what both come to
abbrev pub AreOutcomesAlike : Outcome → Outcome → Type 0
AreOutcomesAlike (Next s) (Next t) = AreAlike s t
AreOutcomesAlike (End world) (End other) = world ≡ other
AreOutcomesAlike (Exit world) (Exit other) = world ≡ other
AreOutcomesAlike (Fail c world) (Fail d other) = (c ≡ d) × (world ≡ other)
AreOutcomesAlike (Absent world) (Absent other) = world ≡ other
AreOutcomesAlike one other = ⊥

-- States that are alike come to such by each step, and by each run.
abbrev pub StepsAreAlike : Type 0
StepsAreAlike = (s t : State) → AreAlike s t → AreOutcomesAlike (step s) (step t)

abbrev pub RunsAreAlike : Type 0
RunsAreAlike = (n : ℕ) (s t : State) → AreAlike s t → AreOutcomesAlike (run n s) (run n t)

-- They read an element of the same kind.
abbrev pub kind_of : Element → Kind
kind_of e = e.kind

pub record ReadsAlike (read : Option Element) (t : State) : Type 0 where
  pub other : Option Element
  pub reads : element_at t.frames.running.text t.frames.running.place ≡ Ok other
  pub kinds : option_map kind_of read ≡ option_map kind_of other

abbrev pub ReadingsAreAlike : Type 0
ReadingsAreAlike =
    (s t : State) (read : Option Element) → AreAlike s t
    → element_at s.frames.running.text s.frames.running.place ≡ Ok read → ReadsAlike read t
