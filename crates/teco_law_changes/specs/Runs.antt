-- A run of a macro changes the text of the world by what is told of the nodes' elements.
use Rattle.std.specs.Prelude.{◌≡◌, ℕ, ◌<◌, List, All, Contains, slice_get, Bool, false, Option, Some, None, Ok}
use Rattle.teco_changes.specs.Arguments.{Implies, IsSo, behind}
use Rattle.teco_changes.specs.Changes.{Changes}
use Rattle.teco_changes.specs.Nearby.{ImpliesNear, Nearby, anything, near_behind}
use Rattle.teco_changes.specs.Worlds.{text_of}
use Rattle.teco_changes.specs.declared.argument.NumericArgument.{NumericArgument}
use Rattle.teco_changes.specs.declared.argument.NumericArgument.TheVariants as known
use Rattle.teco_changes.specs.declared.change.Change.{Change}
use Rattle.teco_law_changes.specs.Steps.{HaveNoFirst, colon_in, gives_first_in, told_with}
use Rattle.teco_law_runs.specs.Linked.{AreLinked}
use Rattle.teco_model.specs.Macros.{IsLoaded, Library}
use Rattle.teco_model.specs.Run.{Ends, Reaches}
use Rattle.teco_model.specs.State.{State, World}
use Rattle.teco_model.specs.laws.Whole.{IsWholeState}
use Rattle.teco_verifier.specs.expansion.Expansion.{expansion}
use Rattle.teco_verifier.specs.expansion.Node.{Node, beginning, numbered}
use Rattle.teco_verifier.specs.expansion.Position.{position_of}

-- all that is told is of a list
abbrev pub IsAmong : Option (List Change) → List Change → Type 0
IsAmong None changes = ⊥
IsAmong (Some told) changes = All (Contains changes) told

-- no node's element gives a first argument, so that P writes no range
abbrev pub NoneGivesFirst : List Node → Type 0
NoneGivesFirst nodes =
    (number : ℕ) (node : Node) → numbered nodes number ≡ Some node → gives_first_in node.element ≡ false

-- So much is known of the numeric argument before each node: at the first that no operator waits, and where a way leads
-- no more than is known behind the node that it leads from.
pub record AreKnown (nodes : List Node) (before : ℕ → NumericArgument) : Type 0 where
  pub first : Implies known.Complete (before 1)
  pub goes :
      (number : ℕ) (node : Node) (way target : ℕ)
      → numbered nodes number ≡ Some node → slice_get node.ways way ≡ Some target
      → Implies (behind node.element (before number)) (before target)

-- does a search at a node count as having a colon?
abbrev pub colon_of : Node → Bool
colon_of node = colon_in node.element node.stand.position.running.text

-- So much is known near the pointer before each node: nothing at the first, and where a way leads no more than is known
-- behind the node that it leads from, on that way.
pub record AreNear (nodes : List Node) (before : ℕ → NumericArgument) (near : ℕ → Nearby) : Type 0 where
  pub first : ImpliesNear anything (near 1)
  pub goes :
      (number : ℕ) (node : Node) (way target : ℕ)
      → numbered nodes number ≡ Some node → slice_get node.ways way ≡ Some target
      → ImpliesNear (near_behind node.element (colon_of node) way (before number) (near number)) (near target)

-- A list has all that the elements of the nodes can do.
pub record Tells (nodes : List Node) (changes : List Change) : Type 0 where
  pub ranged : Bool
  pub none : ranged ≡ false → NoneGivesFirst nodes
  pub before : ℕ → NumericArgument
  pub known : AreKnown nodes before
  pub near : ℕ → Nearby
  pub nearby : AreNear nodes before near
  pub each :
      (number : ℕ) (node : Node)
      → numbered nodes number ≡ Some node
      → IsAmong (told_with node.element ranged (before number) (near number)) changes

-- It has all that the elements of a macro can do.
abbrev pub TellsOf : Library → ℕ → List Change → Type 0
TellsOf library entry changes = (nodes : List Node) → expansion library entry ≡ Ok nodes → Tells nodes changes

-- a text is got from another by whatever changes are told of a macro
abbrev pub IsGot : Library → ℕ → List ℕ → List ℕ → Type 0
IsGot library entry old new = (changes : List Change) → TellsOf library entry changes → Changes changes old new

-- whatever list has all that the elements can do, the text is changed by it
abbrev pub ChangesAsTold : List Node → World → World → Type 0
ChangesAsTold nodes old new =
    (changes : List Change) → Tells nodes changes → Changes changes (text_of old) (text_of new)

-- where a run begins: nothing is left to do, and neither a first argument nor an operator is pending
pub record Begins (s : State) : Type 0 where
  pub whole : IsWholeState s
  pub done : s.left ≡ None
  pub arguments : HaveNoFirst s.arguments
  pub complete : IsSo known.Complete s.arguments.level

-- A run of so many steps from the call of a macro, whose nodes these are; its library is loaded wherever an element
-- begins on the way.
pub record IsOfMacro (library : Library) (entry : ℕ) (nodes : List Node) (first : State) (n : ℕ) : Type 0 where
  pub linked : AreLinked library entry nodes
  pub begins : position_of first ≡ (beginning entry).position
  pub loaded :
      (k : ℕ) (u : State) → k < n → Reaches k first u → u.left ≡ None → IsLoaded library u.world.kept

-- Such a run changes the text as told, wherever it comes to,
abbrev pub RunsAreTold : Type 0
RunsAreTold =
    (library : Library) (entry : ℕ) (nodes : List Node) (first : State) (n : ℕ) (s : State)
    → Begins first → IsOfMacro library entry nodes first n → Reaches n first s
    → ChangesAsTold nodes first.world s.world

-- and to its end.
abbrev pub EndsAreTold : Type 0
EndsAreTold =
    (library : Library) (entry : ℕ) (nodes : List Node) (first : State) (n : ℕ) (new : World)
    → Begins first → IsOfMacro library entry nodes first n → Ends first n new → ChangesAsTold nodes first.world new
