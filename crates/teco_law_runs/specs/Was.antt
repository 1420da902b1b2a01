-- What a step was that went a way: a return, a call, a flow element, a search, or an element that only goes on.
use Rattle.std.specs.Prelude.{◌≡◌, ℕ, ℤ, zero, suc, pos, negsuc, List, [], ◌∷◌, Bool, true, false, Option, Some, None}
use Rattle.std.specs.Prelude.{◌⊎◌, Result, Ok}
use Rattle.teco_base.specs.declared.code.Code.{Code}
use Rattle.teco_model.specs.declared.flow.Loop.{Loop}
use Rattle.teco_model.specs.declared.kind.Call.{Call}
use Rattle.teco_model.specs.declared.kind.Flow.{Flow}
use Rattle.teco_model.specs.declared.kind.Kind.{Kind}
use Rattle.teco_model.specs.declared.kind.Kind.TheVariants as kind
use Rattle.teco_model.specs.declared.kind.Search.{Search}
use Rattle.teco_model.specs.declared.kind.Search.TheVariants.{Find, Replace, FindInPages, ReplaceInPages}
use Rattle.teco_model.specs.Arguments.{Arguments, no_arguments, levels_after_taking, levels_after_answer}
use Rattle.teco_model.specs.Element.{Element}
use Rattle.teco_model.specs.Flow.{Turn}
use Rattle.teco_model.specs.Going.{frames_at, frames_in, with_kept, with_taken}
use Rattle.teco_model.specs.Paging.{Looked, Met, Through, look_first, look_for, looked_through}
use Rattle.teco_model.specs.Search.{Finding, Found, Missed, search}
use Rattle.teco_model.specs.Searching.{has_colon, with_message, kept_by_miss}
use Rattle.teco_model.specs.State.{Kept, World, Frame, State, Next}
use Rattle.teco_model.specs.Step.{outcome_of}
use Rattle.teco_model.specs.Storage.{text_in}
use Rattle.teco_law_runs.specs.Turns.{Jumps, Went}

-- The end of a text goes back to the text that waits.
pub record Returns (s t : State) : Type 0 where
  pub caller : Frame
  pub callers : List Frame
  pub waiting : s.frames.callers ≡ caller ∷ callers
  pub closed : s.frames.running.loops ≡ []
  pub gone : t ≡ record s { frames = record { running = caller; callers = callers } }

-- M goes to the beginning of the text that its register holds now.
abbrev pub Calls : Call → Element → State → State → Type 0
Calls c e s t = t ≡ record s { frames = frames_in (text_in c.register s.world.kept) e.next s.frames }

-- A flow element turns, and leaves what stays.
pub record Turns (f : Flow) (way : ℕ) (e : Element) (s t : State) : Type 0 where
  pub turn : Turn
  pub went : Went f way e s.arguments s.frames.running turn
  pub gone : t ≡ record s { arguments = turn.arguments; frames = record s.frames { running = turn.frame } }

-- what S and FS come to with the arguments that they take, and N and FN in their first step
abbrev pub finding : Search → Element → State → Result Finding Code
finding x e s = with_taken s.arguments (λ taken rest. search x e taken s.world.kept)

abbrev pub looking : Search → Element → State → Result Looked Code
looking x e s = with_taken s.arguments (λ taken rest. look_first x e taken s.world)

-- what N and FN look for: the first step takes their arguments, and one that goes on wants so many matches yet
abbrev pub looking_on : Search → Element → State → Option ℕ → Result Looked Code
looking_on x e s None = looking x e s
looking_on x e s (Some n) = look_for x e n s.world

abbrev pub levels_looking : Option ℕ → Arguments → Arguments
levels_looking None arguments = levels_after_taking arguments
levels_looking (Some n) arguments = arguments

-- what a search leaves pending: N and FN took their arguments before where they go on
abbrev pub levels_searching : Search → State → Arguments
levels_searching Find s = levels_after_taking s.arguments
levels_searching Replace s = levels_after_taking s.arguments
levels_searching FindInPages s = levels_looking s.left s.arguments
levels_searching ReplaceInPages s = levels_looking s.left s.arguments

-- what stays where a search finds, and where it misses
abbrev pub Finds : Search → Element → State → World → Type 0
Finds Find e s world = (kept : Kept) × (finding Find e s ≡ Ok (Found kept)) × (world ≡ with_kept kept s.world)
Finds Replace e s world = (kept : Kept) × (finding Replace e s ≡ Ok (Found kept))
    × (world ≡ with_kept kept s.world)
Finds FindInPages e s world = looking_on FindInPages e s s.left ≡ Ok (Met world)
Finds ReplaceInPages e s world = looking_on ReplaceInPages e s s.left ≡ Ok (Met world)

abbrev pub Misses : Search → Element → State → World → Type 0
Misses Find e s world =
    (kept : Kept) × (finding Find e s ≡ Ok (Missed kept))
    × (world ≡ with_kept (kept_by_miss e.colons kept) s.world)
Misses Replace e s world =
    (kept : Kept) × (finding Replace e s ≡ Ok (Missed kept))
    × (world ≡ with_kept (kept_by_miss e.colons kept) s.world)
Misses FindInPages e s world =
    (last : World) × (looking_on FindInPages e s s.left ≡ Ok (Through last)) × (world ≡ looked_through last)
Misses ReplaceInPages e s world =
    (last : World) × (looking_on ReplaceInPages e s s.left ≡ Ok (Through last))
    × (world ≡ looked_through last)

-- with a colon it answers
abbrev pub answer_where : Bool → ℤ → Option ℤ
answer_where true n = Some n
answer_where false n = None

-- A search goes on behind itself, and may answer.
pub record Answers (answer : Option ℤ) (world : World) (levels : Arguments) (e : Element)
    (s t : State) : Type 0 where
  pub world_is : t.world ≡ world
  pub arguments_are : t.arguments ≡ levels_after_answer answer levels
  pub frames_are : t.frames ≡ frames_at e.next s.frames

-- where it finds, with -1 if it has a colon,
pub record GoesOnFound (x : Search) (e : Element) (s t : State) : Type 0 where
  pub world : World
  pub finds : Finds x e s world
  pub answers :
      Answers (answer_where (has_colon e s.frames.running) (negsuc 0)) world (levels_searching x s)
      e s t

-- and where it misses with a colon, with 0
pub record GoesOnMissed (x : Search) (e : Element) (s t : State) : Type 0 where
  pub world : World
  pub misses : Misses x e s world
  pub colon : has_colon e s.frames.running ≡ true
  pub answers : Answers (Some (pos 0)) world (levels_searching x s) e s t

-- A miss without a colon leaves the iteration.
pub record LeavesByMiss (x : Search) (e : Element) (s t : State) : Type 0 where
  pub world : World
  pub misses : Misses x e s world
  pub colon : has_colon e s.frames.running ≡ false
  pub loop : Loop
  pub outer : List Loop
  pub inside : s.frames.running.loops ≡ loop ∷ outer
  pub turn : Turn
  pub jumps : Jumps 1 e no_arguments s.frames.running turn
  pub world_is : t.world ≡ with_message world
  pub arguments_are : t.arguments ≡ turn.arguments
  pub frames_are : t.frames ≡ record s.frames { running = turn.frame }

abbrev pub SearchWas : Search → ℕ → Element → State → State → Type 0
SearchWas x zero e s t = GoesOnFound x e s t ⊎ GoesOnMissed x e s t
SearchWas x (suc zero) e s t = LeavesByMiss x e s t
SearchWas x way e s t = ⊥

-- Any other element went its only way.
abbrev pub OutcomeWas : ℕ → Kind → Element → State → State → Type 0
OutcomeWas zero k e s t = outcome_of k e s ≡ Next t
OutcomeWas way k e s t = ⊥

abbrev pub CallWas : ℕ → Call → Element → State → State → Type 0
CallWas zero c e s t = Calls c e s t
CallWas way c e s t = ⊥

abbrev pub ElementWas : Kind → ℕ → Element → State → State → Type 0
ElementWas (kind.Call c) way e s t = CallWas way c e s t
ElementWas (kind.Flow f) way e s t = Turns f way e s t
ElementWas (kind.Search x) way e s t = SearchWas x way e s t
ElementWas k way e s t = OutcomeWas way k e s t

abbrev pub ReturnWas : ℕ → State → State → Type 0
ReturnWas zero s t = Returns s t
ReturnWas way s t = ⊥

-- by what was read, and the number of the way
abbrev pub StepWas : Option Element → ℕ → State → State → Type 0
StepWas None way s t = ReturnWas way s t
StepWas (Some e) way s t = ElementWas e.kind way e s t
