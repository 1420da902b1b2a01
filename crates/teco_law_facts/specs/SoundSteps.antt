-- One law of all elements: where what is known before an element says its edges, and they fit, a step there comes to no
-- code, and the facts of the edge that it goes along describe where it leads.
use Rattle.std.specs.Prelude.{◌≡◌, ℕ, zero, ℤ, ◌+◌, ◌≤◌, ⊤, List, [], ◌∷◌, Bool, true, false, is_some, Option, Some}
use Rattle.std.specs.Prelude.{None, MatchOption, IfOk, Ok, ◌⊎◌}
use Rattle.teco_base.specs.declared.code.Code.TheVariants as code
use Rattle.teco_model.specs.Ahead.{Whole}
use Rattle.teco_model.specs.Arguments.{arguments_of, levels_after_taking, no_arguments}
use Rattle.teco_model.specs.Condition.{holds}
use Rattle.teco_model.specs.Element.{Element, element_at}
use Rattle.teco_model.specs.Files.{Output}
use Rattle.teco_model.specs.Flow.{Turn, turn_of, jump, later_turns, leaves}
use Rattle.teco_model.specs.Going.{frames_at, frames_in}
use Rattle.teco_model.specs.Run.{Reaches}
use Rattle.teco_model.specs.Searching.{has_colon}
use Rattle.teco_model.specs.Skip.{skip_of}
use Rattle.teco_model.specs.State.{Frame, State, Outcome, Next}
use Rattle.teco_model.specs.Step.{step}
use Rattle.teco_model.specs.Storage.{text_in}
use Rattle.teco_model.specs.declared.arguments.Taken.{Taken}
use Rattle.teco_model.specs.declared.flow.Loop.{Loop}
use Rattle.teco_model.specs.declared.kind.Call.{Call}
use Rattle.teco_model.specs.declared.kind.Flow.{Flow}
use Rattle.teco_model.specs.declared.kind.Flow.TheVariants as flow
use Rattle.teco_model.specs.declared.kind.Goal.TheVariants as goal
use Rattle.teco_model.specs.declared.kind.Kind.{Kind}
use Rattle.teco_model.specs.declared.kind.Kind.TheVariants as kind
use Rattle.teco_model.specs.declared.kind.Page.{Page}
use Rattle.teco_model.specs.declared.kind.Search.{Search}
use Rattle.teco_poly.specs.Polynomial.{Polynomial, value}
use Rattle.teco_law_facts.specs.Describes.{Run, Describes, run_behind, run_in_turn}
use Rattle.teco_verifier.specs.facts.Facts.{Facts, Iteration}
use Rattle.teco_verifier.specs.facts.Flows.{Edges}
use Rattle.teco_verifier.specs.facts.Printed.{needs, steps}
use Rattle.teco_law_facts.specs.Repeats.{Advances, IsAt}
use Rattle.teco_law_facts.specs.SoundElements.{FitsOn, IsNamedByCommand, IsNamedByQuery, IsNamedByStack}
use Rattle.teco_law_facts.specs.SoundFlow.{number_needed}
use Rattle.teco_model.specs.Paging.{unread_of}
use Rattle.teco_law_facts.specs.SoundPages.{ComesTo, Comes, IsTurnOrWrite}
use Rattle.teco_law_facts.specs.SoundSeeking.{IsInPages, facts_seeking, IsSeeking}
use Rattle.teco_law_runs.specs.Ready.{AreOpen}
use Rattle.teco_verifier.specs.facts.Transfer.{Placed, transfer, transfer_return}
use Rattle.teco_law_runs.specs.Wholeness.{IsWholeState}

-- a register that an element names is one of the 36
abbrev pub IsNamed : Kind → Type 0
IsNamed (kind.Command c) = IsNamedByCommand c
IsNamed (kind.Query q) = IsNamedByQuery q
IsNamed (kind.Stack s) = IsNamedByStack s
IsNamed k = ⊤

abbrev pub ElementsAreNamed : Type 0
ElementsAreNamed =
    (text : List ℕ) (place : ℕ) (e : Element) → element_at text place ≡ Ok (Some e) → IsNamed e.kind

-- ---- what must be known of where an element stands
-- an element that may jump leads somewhere
abbrev pub LeadsAhead : Element → Frame → Type 0
LeadsAhead e frame = (place : ℕ) × ((skip_of frame.text (Whole e)).to ≡ Some place)

-- an iteration is open in the text, and in what is known, which knows whether its turns are counted
pub record IsInside (facts : Facts) (frame : Frame) : Type 0 where
  pub loop : Loop
  pub outer : List Loop
  pub loops : frame.loops ≡ loop ∷ outer
  pub iteration : Iteration
  pub others : List Iteration
  pub iterations : facts.iterations ≡ iteration ∷ others
  pub counted : (turns : ℕ) → loop.turns ≡ Some turns → iteration.counted ≡ true

abbrev pub FlowStands : Flow → Facts → Placed → Frame → Type 0
FlowStands flow.Iterate facts x frame = LeadsAhead x.element frame
FlowStands flow.EndTurn facts x frame = IsInside facts frame
FlowStands flow.Leave facts x frame = IsInside facts frame × LeadsAhead x.element frame
FlowStands (flow.Test t) facts x frame = LeadsAhead x.element frame
FlowStands flow.Otherwise facts x frame = LeadsAhead x.element frame
FlowStands flow.GoTo facts x frame = LeadsAhead x.element frame
FlowStands (flow.GoAhead goal.EndTurn) facts x frame = IsInside facts frame × LeadsAhead x.element frame
FlowStands (flow.GoAhead g) facts x frame = LeadsAhead x.element frame
FlowStands f facts x frame = ⊤

abbrev pub KindStands : Kind → Facts → Placed → Frame → Type 0
KindStands (kind.Flow f) facts x frame = FlowStands f facts x frame
KindStands (kind.Search s) facts x frame = x.colon ≡ false → IsInside facts frame × LeadsAhead x.element frame
KindStands k facts x frame = ⊤

-- A placed element begins at a state, which the facts describe.
pub record BeginsAt (run : Run) (facts : Facts) (x : Placed) (s : State) : Type 0 where
  pub whole : IsWholeState s
  pub described : Describes run facts (unread_of s.world) s.world.kept s.arguments
  pub left : s.left ≡ None
  pub read : element_at s.frames.running.text s.frames.running.place ≡ Ok (Some x.element)
  pub colon : x.colon ≡ has_colon x.element s.frames.running
  pub named : IsNamed x.element.kind
  pub stands : KindStands x.element.kind facts x s.frames.running
  pub files : IfOk (needs x.element.kind facts) (λ need. AreOpen need s.world.files)

-- ---- where it leads
-- on behind the element
pub record GoesBehind
    (run : Run) (held : Polynomial) (edges : Edges) (e : Element) (old new : State) : Type 0 where
  pub comes : Comes run held old.world new.arguments edges new.world
  pub frames : new.frames ≡ frames_at e.next old.frames
  pub done : new.left ≡ None

-- away, out of the innermost iteration
pub record LeavesFor
    (run : Run) (held : Polynomial) (edges : Edges) (e : Element) (old new : State) : Type 0 where
  pub comes :
      MatchOption edges.away ⊥
      (λ next. ComesTo (run_behind 1 run) held old.world next new.arguments new.world)
  pub turn : Turn
  pub jumps : jump code.Utc e no_arguments old.frames.running ≡ Ok turn
  pub frames : new.frames ≡ record old.frames { running = turn.frame }
  pub loop : Loop
  pub loops : old.frames.running.loops ≡ loop ∷ new.frames.running.loops
  pub done : new.left ≡ None

-- An element of flow turns, along an edge that its value says.
abbrev pub Reached : Run → Polynomial → State → Option Facts → Turn → Type 0
Reached run held s edge turn =
    MatchOption edge ⊥ (λ next. ComesTo run held s.world next turn.arguments s.world)

-- one edge and run, or the other
abbrev pub ReachedIf : Bool → Run → Run → Polynomial → State → Option Facts → Option Facts → Turn → Type 0
ReachedIf true run other held s edge away turn = Reached run held s edge turn
ReachedIf false run other held s edge away turn = Reached other held s away turn

abbrev pub enters : Option ℤ → Bool
enters None = true
enters (Some n) = is_some (later_turns n)

abbrev pub is_last : Option ℕ → Bool
is_last (Some zero) = true
is_last turns = false

abbrev pub run_begun : State → Run → Run
run_begun s run = run_in_turn (unread_of s.world) s.world.kept run

abbrev pub FlowGoes : Flow → Run → Polynomial → Placed → Edges → State → Turn → Type 0
FlowGoes flow.Iterate run held x edges s turn =
    (taken : Taken) × (arguments_of s.arguments.level ≡ Ok taken)
    × ReachedIf (enters taken.value) (run_begun s run) run held s edges.on edges.away turn
FlowGoes flow.EndTurn run held x edges s turn =
    (loop : Loop) × (outer : List Loop) × (s.frames.running.loops ≡ loop ∷ outer)
    × ReachedIf (is_last loop.turns) (run_behind 1 run) (run_begun s (run_behind 1 run)) held s
    edges.on edges.away turn
FlowGoes flow.Leave run held x edges s turn =
    (v : ℤ) × (number_needed s.arguments ≡ Ok v)
    × ReachedIf (leaves x.element.colons v) (run_behind 1 run) run held s edges.away edges.on turn
FlowGoes (flow.Test test) run held x edges s turn =
    (v : ℤ) × (number_needed s.arguments ≡ Ok v)
    × ReachedIf (holds test v) run run held s edges.on edges.away turn
FlowGoes flow.Otherwise run held x edges s turn = Reached run held s edges.away turn
FlowGoes flow.EndTest run held x edges s turn = Reached run held s edges.on turn
FlowGoes flow.GoTo run held x edges s turn = Reached (run_behind x.leaves run) held s edges.away turn
FlowGoes flow.Comment run held x edges s turn = Reached run held s edges.on turn
FlowGoes (flow.GoAhead g) run held x edges s turn = Reached run held s edges.away turn

pub record Turns
    (f : Flow) (run : Run) (held : Polynomial) (x : Placed) (edges : Edges) (s new : State) : Type 0 where
  pub turn : Turn
  pub turns : turn_of f x.element s.arguments s.frames.running ≡ Ok turn
  pub goes : FlowGoes f run held x edges s turn
  pub gone : new ≡ record s { arguments = turn.arguments; frames = record s.frames { running = turn.frame } }

-- M begins its text, and what is known stays true.
pub record Begins
    (c : Call) (run : Run) (held : Polynomial) (edges : Edges) (e : Element) (s new : State) : Type 0 where
  pub comes : Comes run held s.world new.arguments edges new.world
  pub gone : new ≡ record s { frames = frames_in (text_in c.register s.world.kept) e.next s.frames }

-- While work is left at P, PW, N and FN, so many steps come at the most.
abbrev pub PageUnderway : Page → Run → Polynomial → Placed → Edges → State → ℕ → State → Type 0
PageUnderway p run held x edges old rest s =
    IsTurnOrWrite p × (s.left ≡ Some rest)
    × Comes run held old.world (levels_after_taking old.arguments) edges s.world
    × ((taken : Taken) × (arguments_of old.arguments.level ≡ Ok taken) × (taken.first ≡ None))

abbrev pub SearchUnderway : Search → Run → Facts → Placed → State → ℕ → State → Type 0
SearchUnderway q run facts x old rest s =
    IsInPages q × ((n : ℕ) × (s.left ≡ Some n)) × (unread_of s.world + 1 ≤ rest)
    × IsSeeking run (facts_seeking facts) old.world old.arguments x.element.text s.world

abbrev pub KindUnderway : Kind → Run → Facts → Placed → Edges → State → ℕ → State → Type 0
KindUnderway (kind.Page p) run facts x edges old rest s = PageUnderway p run facts.held x edges old rest s
KindUnderway (kind.Search q) run facts x edges old rest s = SearchUnderway q run facts x old rest s
KindUnderway k run facts x edges old rest s = ⊥

pub record IsUnderway
    (k : Kind) (run : Run) (facts : Facts) (x : Placed) (edges : Edges) (old : State) (rest : ℕ) (s : State) :
    Type 0 where
  pub some : 1 ≤ rest
  pub pending : s.arguments ≡ levels_after_taking old.arguments
  pub frames : s.frames ≡ old.frames
  pub output : (output : Output) × (s.world.files.output ≡ Some output)
  pub work : KindUnderway k run facts x edges old rest s

-- The element ends.
abbrev pub KindEnds : Kind → Run → Facts → Placed → Edges → State → State → Type 0
KindEnds (kind.Flow f) run facts x edges old new = Turns f run facts.held x edges old new
KindEnds (kind.Call c) run facts x edges old new = Begins c run facts.held edges x.element old new
KindEnds (kind.Search s) run facts x edges old new =
    GoesBehind run facts.held edges x.element old new
    ⊎ ((x.colon ≡ false) × LeavesFor run facts.held edges x.element old new)
KindEnds k run facts x edges old new = GoesBehind run facts.held edges x.element old new

-- A step ends the element, or leaves fewer than so many steps to come.
abbrev pub Proceeds : Kind → Run → Facts → Placed → Edges → State → ℕ → Outcome → Type 0
Proceeds k run facts x edges old =
    Advances (IsUnderway k run facts x edges old) (KindEnds k run facts x edges old)

-- the first step of an element, and each that follows
abbrev pub StepsAreSound : Type 0
StepsAreSound =
    (run : Run) (facts : Facts) (x : Placed) (edges : Edges) (most : Polynomial) (s : State)
    → BeginsAt run facts x s → transfer x facts ≡ Ok edges → FitsOn run.n edges
    → steps x.element.kind facts ≡ Ok most
    → Proceeds x.element.kind run facts x edges s (value most run.n) (step s)

abbrev pub LaterStepsAreSound : Type 0
LaterStepsAreSound =
    (run : Run) (facts : Facts) (x : Placed) (edges : Edges) (most : Polynomial) (old s : State) (rest : ℕ)
    → BeginsAt run facts x old → transfer x facts ≡ Ok edges → FitsOn run.n edges
    → steps x.element.kind facts ≡ Ok most → IsUnderway x.element.kind run facts x edges old rest s
    → Proceeds x.element.kind run facts x edges old rest (step s)

-- An element that begins takes at most its own steps: the last of them ends it, and while work is left it is underway.
pub record Completes
    (run : Run) (facts : Facts) (x : Placed) (edges : Edges) (most : ℕ) (s : State) : Type 0 where
  pub before : ℕ
  pub last : State
  pub new : State
  pub few : before + 1 ≤ most
  pub reaches : Reaches before s last
  pub stands : IsAt (IsUnderway x.element.kind run facts x edges s) s last
  pub final : step last ≡ Next new
  pub ends : KindEnds x.element.kind run facts x edges s new

abbrev pub ElementsAreSound : Type 0
ElementsAreSound =
    (run : Run) (facts : Facts) (x : Placed) (edges : Edges) (most : Polynomial) (s : State)
    → BeginsAt run facts x s → transfer x facts ≡ Ok edges → FitsOn run.n edges
    → steps x.element.kind facts ≡ Ok most
    → Completes run facts x edges (value most run.n) s

-- The end of a called text goes back, and what is known stays true.
pub record ReturnsTo
    (run : Run) (facts : Facts) (s : State) (caller : Frame) (callers : List Frame) (new : State) :
    Type 0 where
  pub comes : Comes run facts.held s.world new.arguments (transfer_return facts) new.world
  pub gone : new ≡ record s { frames = record { running = caller; callers = callers } }

abbrev pub ReturnsGoBack : Type 0
ReturnsGoBack =
    (run : Run) (facts : Facts) (s : State) (caller : Frame) (callers : List Frame)
    → Describes run facts (unread_of s.world) s.world.kept s.arguments
    → element_at s.frames.running.text s.frames.running.place ≡ Ok None
    → s.frames.running.loops ≡ [] → s.frames.callers ≡ caller ∷ callers
    → (new : State) × (step s ≡ Next new) × ReturnsTo run facts s caller callers new
