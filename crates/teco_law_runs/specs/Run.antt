-- A run of a macro stands at the nodes of its expansion alone, and goes from each by one of its ways.
use Rattle.std.specs.Prelude.{◌≡◌, ℕ, List, false, Option, None, Some, Ok, slice_get}
use Rattle.teco_model.specs.Element.{Element}
use Rattle.teco_model.specs.Run.{Reaches}
use Rattle.teco_model.specs.State.{World, State, Next, End, start}
use Rattle.teco_model.specs.Step.{step}
use Rattle.teco_model.specs.Macros.{Library, IsLoaded, call_of}
use Rattle.teco_law_runs.specs.Linked.{IsNext, AreLinked}
use Rattle.teco_verifier.specs.expansion.Names.{writes_macro}
use Rattle.teco_verifier.specs.expansion.Node.{Stand, Node, over, stands, numbered, stand_at, base_of, base_of_way}
use Rattle.teco_verifier.specs.expansion.Position.{position_of}
use Rattle.teco_law_runs.specs.Steps.{IsLeftAt, Stays}
use Rattle.teco_law_runs.specs.Was.{StepWas}
use Rattle.teco_verifier.specs.expansion.Ways.{read_at}

-- A step went from a node to what is numbered by one of its ways. That stands where the machine stands, and has the
-- iterations that are open there.
pub record GoesTo (all : List Stand) (number : ℕ) (node : Node) (s t : State) : Type 0 where
  pub way : ℕ
  pub target : ℕ
  pub taken : slice_get node.ways way ≡ Some target
  pub there :
      IsNext all (base_of_way way (base_of node.element number node.stand.iterations) number)
      (stand_at number node.stand (position_of t)) target
  pub done : t.left ≡ None
  pub was : StepWas node.element way s t

pub data MovesFrom (all : List Stand) (number : ℕ) (node : Node) (s t : State) : Type 0 where
  Went : GoesTo all number node s t → MovesFrom all number node s t
  Stayed : Stays node.element s t → MovesFrom all number node s t

abbrev pub StepsGoAlongNodes : Type 0
StepsGoAlongNodes =
    (library : Library) (entry : ℕ) (nodes : List Node) (number : ℕ) (node : Node) (s t : State)
    → AreLinked library entry nodes → numbered nodes number ≡ Some node
    → node.stand.position ≡ position_of s → IsLeftAt node.element s.left → IsLoaded library s.world.kept
    → step s ≡ Next t → MovesFrom (stands nodes entry) number node s t

-- a state stands where a number does, and has work left at an element of several steps alone
pub record StandsAt (library : Library) (all : List Stand) (number : ℕ) (s : State) : Type 0 where
  pub stand : Stand
  pub at : numbered all number ≡ Some stand
  pub position : stand.position ≡ position_of s
  pub left : (read : Option Element) → read_at stand.position ≡ Ok read → IsLeftAt read s.left
  pub loaded : IsLoaded library s.world.kept

-- what is read where a state stands writes no register of the library
pub record WritesNoMacro (library : Library) (s : State) : Type 0 where
  pub none : (read : Option Element) → read_at (position_of s) ≡ Ok read → writes_macro library read ≡ false

-- some number does
pub record ComesTo (library : Library) (all : List Stand) (s : State) : Type 0 where
  pub number : ℕ
  pub there : StandsAt library all number s

abbrev pub RunsComeToNodes : Type 0
RunsComeToNodes =
    (library : Library) (entry : ℕ) (nodes : List Node) (world : World) (n : ℕ) (s : State)
    → AreLinked library entry nodes → IsLoaded library world.kept
    → ((m : ℕ) (u : State) → Reaches m (start (call_of entry) world) u → WritesNoMacro library u)
    → Reaches n (start (call_of entry) world) s → ComesTo library (stands nodes entry) s

-- Where a run stands at the end, the next step is the end of the command string.
abbrev pub RunsEnd : Type 0
RunsEnd = (entry : ℕ) (s : State) → (over entry).position ≡ position_of s → step s ≡ End s.world
