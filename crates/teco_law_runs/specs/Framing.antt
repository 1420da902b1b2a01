-- What a run of a macro leaves: registers that no element of the macro names, the search mode, where none may set it,
-- and the push-down list of its entry.
use Rattle.std.specs.Prelude.{◌≡◌, ◌≢◌, ℕ, List, ◌∷◌, ◌++◌, Bool, false, Option, Some, None, Ok}
use Rattle.teco_law_runs.specs.Loaded.{sets_mode}
use Rattle.teco_model.specs.declared.kind.Kind.{Kind}
use Rattle.teco_model.specs.declared.kind.Kind.TheVariants as kind
use Rattle.teco_model.specs.declared.kind.Stack.{Stack}
use Rattle.teco_model.specs.declared.kind.Stack.TheVariants as stack
use Rattle.teco_model.specs.Element.{Element}
use Rattle.teco_model.specs.Registers.{Pair, pair_of}
use Rattle.teco_model.specs.State.{Kept, State, Next}
use Rattle.teco_model.specs.Step.{step}
use Rattle.teco_verifier.specs.expansion.Names.{named_by}
use Rattle.teco_verifier.specs.expansion.Node.{Node, numbered}
use Rattle.teco_verifier.specs.expansion.Position.{position_of}
use Rattle.teco_verifier.specs.expansion.Ways.{read_at}

-- the register that is named by what is read, if one is; and whether that may set the search mode
abbrev pub named_in : Option Element → Option ℕ
named_in None = None
named_in (Some e) = named_by e.kind

abbrev pub sets_mode_in : Option Element → Bool
sets_mode_in None = false
sets_mode_in (Some e) = sets_mode e.kind

-- no node names the register, or sets the mode
abbrev pub NoneNames : List Node → ℕ → Type 0
NoneNames nodes r =
    (number : ℕ) (node : Node) → numbered nodes number ≡ Some node → named_in node.element ≢ Some r

abbrev pub NoneSetsMode : List Node → Type 0
NoneSetsMode nodes =
    (number : ℕ) (node : Node) → numbered nodes number ≡ Some node → sets_mode_in node.element ≡ false

-- Such registers have the number and the text that they had, and so the mode is as it was.
pub record IsFramed (nodes : List Node) (old new : Kept) : Type 0 where
  pub pairs : (r : ℕ) → NoneNames nodes r → pair_of r new.registers ≡ pair_of r old.registers
  pub mode : NoneSetsMode nodes → new.mode ≡ old.mode

-- A push-down list has pairs above another.
pub record LiesBelow (below stack : List Pair) : Type 0 where
  pub above : List Pair
  pub is : stack ≡ above ++ below

-- A run leaves each register that no element of the macro names, and the search mode, if no element may set it, as they
-- were; and the push-down list below what it pushed and did not pop.
pub record LeavesFramed (nodes : List Node) (old new : Kept) : Type 0 where
  pub framed : IsFramed nodes old new
  pub below : LiesBelow old.registers.stack new.registers.stack

-- what is read is of a node, or nothing is
pub data ReadsIn (nodes : List Node) (s : State) : Type 0 where
  OfNode :
      (number : ℕ) (node : Node) → numbered nodes number ≡ Some node → read_at (position_of s) ≡ Ok node.element
      → ReadsIn nodes s
  OfNone : read_at (position_of s) ≡ Ok None → ReadsIn nodes s

-- [ puts a pair on the push-down list, and ] takes one off; all else keeps it.
abbrev pub ShiftsByStack : Stack → List Pair → List Pair → Type 0
ShiftsByStack (stack.Push r) old new = (pair : Pair) × (new ≡ pair ∷ old)
ShiftsByStack (stack.Pop r) old new = (pair : Pair) × (old ≡ pair ∷ new)

abbrev pub ShiftsByKind : Kind → List Pair → List Pair → Type 0
ShiftsByKind (kind.Stack s) old new = ShiftsByStack s old new
ShiftsByKind k old new = new ≡ old

abbrev pub Shifts : Option Element → List Pair → List Pair → Type 0
Shifts None old new = new ≡ old
Shifts (Some e) old new = ShiftsByKind e.kind old new

abbrev pub StepsShift : Type 0
StepsShift =
    (s t : State) (read : Option Element)
    → read_at (position_of s) ≡ Ok read → step s ≡ Next t
    → Shifts read s.world.kept.registers.stack t.world.kept.registers.stack
