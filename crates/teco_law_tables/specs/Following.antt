-- What is true of a run where an element begins: it stands at a node that the table has as reached, and is
-- described there.
use Rattle.std.specs.Prelude.{◌≡◌, ℕ, suc, ◌+◌, ◌≤◌, ⊤, List, [], ◌∷◌, ◌++◌, map, length, Bool, true, false, Option}
use Rattle.std.specs.Prelude.{Some, None}
use Rattle.teco_law_turns.specs.Moves.{OpenLoop, State as Shown}
use Rattle.teco_model.specs.declared.flow.Loop.{Loop}
use Rattle.teco_model.specs.Registers.{Pair}
use Rattle.teco_model.specs.State.{World, Frame, State}
use Rattle.teco_model.specs.Macros.{Library, IsLoaded}
use Rattle.teco_verifier.specs.expansion.Node.{Node, numbered}
use Rattle.teco_verifier.specs.expansion.Position.{position_of}
use Rattle.teco_verifier.specs.facts.Bodies.{Choice}
use Rattle.teco_law_facts.specs.Describes.{Run, IsWhole, Describes, AreEach, HasFallen}
use Rattle.teco_verifier.specs.facts.Facts.{Facts}
use Rattle.teco_model.specs.Paging.{unread_of}
use Rattle.teco_verifier.specs.table.Closed.{is_counted}
use Rattle.teco_verifier.specs.table.Table.{Table, facts_at, choice_at}
use Rattle.teco_poly.specs.Polynomial.{value}

-- A turn that runs: how much was ahead when it began, and how many turns come after it at most.
pub record OpenTurn : Type 0 where
  pub begun : ℕ
  pub more : ℕ

abbrev pub begun_of : OpenTurn → ℕ
begun_of turn = turn.begun

-- what the facts of a run speak of: N, the open turns, and the push-down list of the entry
abbrev pub run_at : ℕ → List Pair → List OpenTurn → Run
run_at n below turns = record { n = n; turns = map begun_of turns; below = below }

-- the open iterations of all texts, the innermost first
abbrev pub loops_in : List Frame → List Loop
loops_in [] = []
loops_in (frame ∷ frames) = frame.loops ++ loops_in frames

abbrev pub open_loops : State → List Loop
open_loops s = loops_in (s.frames.running ∷ s.frames.callers)

-- With a count as many turns come after as are left, and without one no more than was ahead when the turn began.
abbrev pub AreMore : Option ℕ → Bool → OpenTurn → Type 0
AreMore None counted turn = (counted ≡ false) × (turn.begun ≤ turn.more)
AreMore (Some left) counted turn = (counted ≡ true) × (left ≡ turn.more)

-- An open iteration was entered. If it is kept, its turn began with no more ahead than at its <, and with the falls
-- outside that are known there.
pub record IsOpened (table : Table) (n begin : ℕ) (loop : Loop) (turn : OpenTurn) (outer : List OpenTurn) : Type 0 where
  pub facts : Facts
  pub start : Facts
  pub choice : Choice
  pub known : facts_at table begin ≡ Some facts
  pub started : facts_at table (suc begin) ≡ Some start
  pub chosen : choice_at table begin ≡ Some choice
  pub more : AreMore loop.turns (is_counted start.iterations) turn
  pub falls : length facts.position.falls ≡ length outer
  pub ahead : choice.kept ≡ true → turn.begun ≤ value facts.position.ahead n
  pub fallen : choice.kept ≡ true → AreEach (HasFallen turn.begun) facts.position.falls (map begun_of outer)

-- each open iteration is opened, by its number
abbrev pub AreOpened : Table → ℕ → List ℕ → List Loop → List OpenTurn → Type 0
AreOpened table n [] [] [] = ⊤
AreOpened table n (begin ∷ begins) (loop ∷ loops) (turn ∷ turns) =
    IsOpened table n begin loop turn turns × AreOpened table n begins loops turns
AreOpened table n begins loops turns = ⊥

-- At a number: the node stands where the state does, and what the table knows there describes it.
pub record IsDescribed
    (library : Library) (nodes : List Node) (table : Table) (n : ℕ) (below : List Pair) (number : ℕ)
    (turns : List OpenTurn) (s : State) : Type 0 where
  pub node : Node
  pub facts : Facts
  pub at : numbered nodes number ≡ Some node
  pub known : facts_at table number ≡ Some facts
  pub position : node.stand.position ≡ position_of s
  pub begins : s.left ≡ None
  pub loaded : IsLoaded library s.world.kept
  pub whole : IsWhole s.world.kept
  pub opened : AreOpened table n node.stand.iterations (open_loops s) turns
  pub described : Describes (run_at n below turns) facts (unread_of s.world) s.world.kept s.arguments

-- what is held, and how the law of turns sees such a run
abbrev pub held_of : World → ℕ
held_of world = length world.kept.text + unread_of world

abbrev pub loops_of : List ℕ → List OpenTurn → List OpenLoop
loops_of (begin ∷ begins) (turn ∷ turns) =
    record { begin = begin; more = Some turn.more } ∷ loops_of begins turns
loops_of [] turns = []
loops_of (begin ∷ begins) [] = []

abbrev pub shown : ℕ → List ℕ → List OpenTurn → World → Shown
shown number begins turns world = record {
  node = number;
  held = held_of world;
  ahead = held_of world;
  opened = loops_of begins turns;
}
