-- One step of a path.
use Rattle.std.specs.Prelude.{◌≡◌, ◌≢◌, ℕ, ◌+◌, ◌≤◌, ◌<◌, List, length, Bool, true, false, Option, Some, None, ◌⊎◌, ⊤}
use Rattle.std.specs.Prelude.{pos, ◌-ℤ◌}
use Rattle.std.specs.List.{Any}
use Rattle.teco_law_runs.specs.Linked.{AreLinked}
use Rattle.teco_linear.specs.declared.term.Term.{Term}
use Rattle.teco_linear.specs.Form as linear
use Rattle.teco_linear.specs.Form.{Valuation}
use Rattle.teco_linear.specs.Implied.{Holds}
use Rattle.teco_law_runs.specs.Framing.{ReadsIn}
use Rattle.teco_law_runs.specs.Ready.{AreOpen}
use Rattle.teco_law_runs.specs.Wholeness.{IsWholeState}
use Rattle.teco_law_runs.specs.Steps.{IsLeftAt}
use Rattle.teco_law_runs.specs.Staying.{NoFileCommands}
use Rattle.teco_model.specs.declared.kind.Flow.TheVariants as flow
use Rattle.teco_model.specs.declared.kind.Kind.{Kind}
use Rattle.teco_model.specs.declared.kind.Kind.TheVariants as kind
use Rattle.teco_model.specs.declared.kind.Page.{Page}
use Rattle.teco_model.specs.declared.kind.Page.TheVariants as page
use Rattle.teco_model.specs.declared.kind.Test.{Test}
use Rattle.teco_model.specs.Element.{Element}
use Rattle.teco_model.specs.laws.Whole.{IsWhole}
use Rattle.teco_model.specs.Macros.{IsLoaded, Needs}
use Rattle.teco_model.specs.Run.{Reaches}
use Rattle.teco_model.specs.State.{Frames, State, Next}
use Rattle.teco_model.specs.Step.{step}
use Rattle.teco_rows.specs.declared.case.Case.{Case}
use Rattle.teco_rows.specs.declared.outcomes.Outcomes.{Outcomes}
use Rattle.teco_flow_outcomes.specs.Flow.{turned}
use Rattle.teco_rows.specs.Foretold.{Begins}
use Rattle.teco_flow_outcomes.specs.Law.{Goes, frames_on, place_away, point_of}
use Rattle.teco_search_outcomes.specs.PageSearches.{Comes}
use Rattle.teco_rows.specs.States.{Point, IsShape, IsTrueOf, Describes}
use Rattle.teco_paths.specs.declared.spot.NodeCase.{NodeCase}
use Rattle.teco_paths.specs.Runs.{Ground, StandsBy, IsAt, IsHeldWithin, held_in}
use Rattle.teco_implied.specs.Implied.{AreMet}
use Rattle.teco_paths.specs.Paths.{Course}
use Rattle.teco_poly.specs.Polynomial.{value}
use Rattle.teco_promise.specs.Promise.{IsWithin, most_with}
use Rattle.teco_verifier.specs.expansion.Names.{written_by}
use Rattle.teco_verifier.specs.expansion.Node.{Node, numbered}

-- Where a text goes on: behind an element, or elsewhere.
abbrev pub GoesByFrames : Bool → Element → Frames → State → Type 0
GoesByFrames false e frames t = t.frames ≡ frames_on e.next t.frames.running.loops frames
GoesByFrames true e frames t =
    (place : ℕ)
    × (place_away e.kind e frames.running ≡ Some place)
    × (t.frames ≡ frames_on place t.frames.running.loops frames)

abbrev pub GoesBy : Bool → Element → State → State → Type 0
GoesBy away e s t = GoesByFrames away e s.frames t

-- neither a command of files nor a call
abbrev pub IsTold : Kind → Type 0
IsTold (kind.File f) = ⊥
IsTold (kind.Call c) = ⊥
IsTold k = ⊤

-- nor a search: what may skip has its pair wherever it stands
abbrev pub HasPair : Kind → Type 0
HasPair (kind.File f) = ⊥
HasPair (kind.Search x) = ⊥
HasPair (kind.Call c) = ⊥
HasPair k = ⊤

-- The file that a command on pages wants is one of those that are open.
abbrev pub IsMet : Needs → Page → Type 0
IsMet needs page.Next = needs.output ≡ true
IsMet needs page.Write = needs.output ≡ true
IsMet needs p = needs.input ≡ true

-- The law of an element, where a run stands at its node: so many steps lead on at the element, and one more leaves it.
abbrev pub LawAt : List Node → Needs → ℕ → Element → Case → Outcomes → Type 0
LawAt nodes needs number e case all =
    (ground : Ground) (v : Valuation) (s : State) (steps : ℕ)
    → ground.needs ≡ needs → AreLinked ground.library ground.entry nodes → IsAt nodes ground number s
    → Begins ground.n v case all (point_of steps ground.origin s)
    → (more : ℕ) × Comes more (Goes ground.n all e (steps + more) ground.origin s) s (step s)

-- A state of a run stands where a number does, and may be at an element of several steps there.
pub record IsDuring (nodes : List Node) (ground : Ground) (number : ℕ) (s : State) : Type 0 where
  pub stands : StandsBy nodes ground number s
  pub left : (node : Node) → numbered nodes number ≡ Some node → IsLeftAt node.element s.left
  pub loaded : IsLoaded ground.library s.world.kept

-- a step from the node of a number goes by a way
pub record Steps (nodes : List Node) (ground : Ground) (number : ℕ) (away : Bool) (s t : State) : Type 0 where
  pub linked : AreLinked ground.library ground.entry nodes
  pub at : IsDuring nodes ground number s
  pub goes : step s ≡ Next t
  pub done : t.left ≡ None
  pub node : Node
  pub is : numbered nodes number ≡ Some node
  pub along : (e : Element) → node.element ≡ Some e → IsTold e.kind → GoesBy away e s t

-- the cases of a way
abbrev pub cases_by : Bool → Outcomes → List Case
cases_by false outcomes = outcomes.cases.items
cases_by true outcomes = outcomes.away.items

-- Such a step comes to a number, if its state is of the shape of a case.
abbrev pub IsTarget : List Node → ℕ → Bool → Case → ℕ → Type 0
IsTarget nodes number away case target =
    (ground : Ground) (steps : ℕ) (s t : State)
    → Steps nodes ground number away s t → IsShape case.shape (point_of steps ground.origin t)
    → StandsBy nodes ground target t

-- so many iterations are open at a node
pub record IsOpenAt (nodes : List Node) (number iterations : ℕ) : Type 0 where
  pub one : 0 < number
  pub last : number ≤ length nodes
  pub as_many : (node : Node) → numbered nodes number ≡ Some node → length node.stand.iterations ≡ iterations

-- and another number of them at another
pub record AreApart (nodes : List Node) (iterations this that : ℕ) : Type 0 where
  pub others : ℕ
  pub here : IsOpenAt nodes this iterations
  pub there : IsOpenAt nodes that others
  pub differ : others ≢ iterations

-- of two nodes this is the one with so many
abbrev pub IsToldApart : List Node → ℕ → ℕ → ℕ → ℕ → Type 0
IsToldApart nodes iterations first second target =
    ((target ≡ first) × AreApart nodes iterations first second)
    ⊎ ((target ≡ second) × AreApart nodes iterations second first)

-- a conditional is read at a node
abbrev pub IsTest : List Node → ℕ → Type 0
IsTest nodes number =
    (node : Node) → numbered nodes number ≡ Some node
    → (e : Element) × (test : Test) × (node.element ≡ Some e) × (e.kind ≡ kind.Flow (flow.Test test))

-- a spot is where a state stands, and describes it
pub record IsThere (nodes : List Node) (ground : Ground) (steps : ℕ) (t : State) (spot : NodeCase) : Type 0 where
  pub stands : StandsBy nodes ground spot.number t
  pub described : Describes ground.n spot.case (point_of steps ground.origin t)

-- Where one of the cases describes the state that such a step comes to, one of the spots is there.
abbrev pub AreKept : List Node → ℕ → Bool → List Case → List NodeCase → Type 0
AreKept nodes number away cases spots =
    (ground : Ground) (steps : ℕ) (s t : State)
    → Steps nodes ground number away s t
    → Any (λ case. Describes ground.n case (point_of steps ground.origin t)) cases
    → Any (IsThere nodes ground steps t) spots

-- such a law, and a case implies the conditions
pub record IsAskedAt (nodes : List Node) (needs : Needs) (number : ℕ) (e : Element) (case : Case) (all : Outcomes) :
    Type 0 where
  pub law : LawAt nodes needs number e case all
  pub asked : AreMet case all

-- a case with one constraint more
abbrev pub IsWith : Case → List Term → Case → Type 0
IsWith case form more =
    (n : ℕ) (v : Valuation) (s : Point) → IsTrueOf n v case s → Holds n v form → IsTrueOf n v more s

-- of two forms one is at least 0
abbrev pub AreHalves : List Term → List Term → Type 0
AreHalves ahead end = (n : ℕ) (v : Valuation) → linear.value ahead n v ≡ pos 0 -ℤ linear.value end n v -ℤ pos 1

-- the other case describes each whole state that this one does
abbrev pub IsSharper : Case → Case → Type 0
IsSharper case sharp = (n : ℕ) (s : Point) → IsWhole s.kept → Describes n case s → Describes n sharp s

-- a state as which one of the cases is, is as one of those found
abbrev pub ArePossible : List Case → List Case → Type 0
ArePossible cases found =
    (n : ℕ) (s : Point) → Any (λ case. Describes n case s) cases → Any (λ case. Describes n case s) found

-- or as one of the cases that are left
abbrev pub AreSifted : List Case → List Case → List Case → Type 0
AreSifted cases rest found =
    (n : ℕ) (s : Point)
    → Any (λ case. Describes n case s) cases
    → Any (λ case. Describes n case s) rest ⊎ Any (λ case. Describes n case s) found

-- or one of the cases that are left does
abbrev pub AreLeft : List Node → ℕ → Bool → List Case → List Case → List NodeCase → Type 0
AreLeft nodes number away cases rest spots =
    (ground : Ground) (steps : ℕ) (s t : State)
    → Steps nodes ground number away s t
    → Any (λ case. Describes ground.n case (point_of steps ground.origin t)) cases
    → Any (λ case. Describes ground.n case (point_of steps ground.origin t)) rest
    ⊎ Any (IsThere nodes ground steps t) spots

-- of either way
abbrev pub AreSpots : List Node → ℕ → Outcomes → List NodeCase → Type 0
AreSpots nodes number outcomes spots =
    (ground : Ground) (steps : ℕ) (s t : State) (away : Bool)
    → Steps nodes ground number away s t
    → Any (λ case. Describes ground.n case (point_of steps ground.origin t)) (cases_by away outcomes)
    → Any (IsThere nodes ground steps t) spots

-- A step passes in which nothing changes but the text that is executed.
abbrev pub Passes : Case → Outcomes → Type 0
Passes case all =
    (n : ℕ) (v : Valuation) (s : Point)
    → Begins n v case all s
    → Any (λ made. Describes n made (turned s s.arguments s.loops)) all.cases.items
    ⊎ Any (λ made. Describes n made (turned s s.arguments s.loops)) all.away.items

-- this is read at the node of a number
abbrev pub IsRead : List Node → ℕ → Option Element → Type 0
IsRead nodes number read = (node : Node) → numbered nodes number ≡ Some node → node.element ≡ read

-- a call
abbrev pub IsCall : Kind → Type 0
IsCall (kind.Call c) = ⊤
IsCall k = ⊥

-- the text that is executed ends there, or waits for another
abbrev pub IsEndOrCall : Option Element → Type 0
IsEndOrCall None = ⊤
IsEndOrCall (Some e) = IsCall e.kind

abbrev pub IsTextEnd : List Node → ℕ → Type 0
IsTextEnd nodes number = (node : Node) → numbered nodes number ≡ Some node → IsEndOrCall node.element

-- and one that writes no text of the library
pub record IsPlain (nodes : List Node) (number : ℕ) (k : Kind) : Type 0 where
  pub told : IsTold k
  pub writes :
      (node : Node) → numbered nodes number ≡ Some node → written_by k ≡ None ⊎ (node.names_macro ≡ false)

-- A state on the way at an element, so many steps after the first: what is read there is of a node, it has the
-- registers of the first and holds no more, and the element begins at the first alone.
pub record IsAmid (nodes : List Node) (s : State) (k : ℕ) (t : State) : Type 0 where
  pub held : held_in t ≤ held_in s
  pub reads : ReadsIn nodes t
  pub registers : t.world.kept.registers ≡ s.world.kept.registers
  pub begins : t.left ≡ None → k ≡ 0

-- One step more than so many goes to a state that one of the spots describes, where it stands, by no command of files;
-- those before the last are on the way.
pub record GoesOn (nodes : List Node) (ground : Ground) (steps : ℕ) (s : State) (spots : List NodeCase) : Type 0 where
  pub more : ℕ
  pub next : State
  pub goes : Reaches (more + 1) s next
  pub none : NoFileCommands s (more + 1)
  pub amid : (k : ℕ) (t : State) → k ≤ more → Reaches k s t → IsAmid nodes s k t
  pub begins : next.left ≡ None
  pub loaded : IsLoaded ground.library next.world.kept
  pub whole : IsWholeState next
  pub files : AreOpen ground.needs next.world.files
  pub there : Any (IsThere nodes ground (steps + (more + 1)) next) spots

-- from each state at a number that a case describes
abbrev pub GoOn : List Node → Needs → ℕ → Case → List NodeCase → Type 0
GoOn nodes needs number case spots =
    (ground : Ground) (steps : ℕ) (s : State)
    → ground.needs ≡ needs → AreLinked ground.library ground.entry nodes → IsAt nodes ground number s
    → Describes ground.n case (point_of steps ground.origin s) → GoesOn nodes ground steps s spots

-- the text has got no longer than it may, if that is bounded
abbrev pub GrowsNoMore : Course → Case → Type 0
GrowsNoMore course case =
    (n : ℕ) (s : Point) → Describes n case s
    → IsWithin (most_with course.grows n s.origin.held) (length s.kept.text + s.unread)

-- no more is held than may be
abbrev pub IsSmall : Course → Case → Type 0
IsSmall course case =
    (n : ℕ) (s : Point) → Describes n case s
    → IsHeldWithin (value course.size n) (most_with course.grows n s.origin.held) (length s.kept.text + s.unread)

-- no more steps were done
abbrev pub IsInTime : Course → Case → Type 0
IsInTime course case =
    (n : ℕ) (s : Point) → Describes n case s → s.steps ≤ value course.commands n

-- no more bytes were typed
abbrev pub TypesNoMore : Course → Case → Type 0
TypesNoMore course case =
    (n : ℕ) (s : Point) → Describes n case s → IsWithin (most_with course.types n s.origin.typed) (length s.kept.typed)
