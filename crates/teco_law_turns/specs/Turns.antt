-- Where the runs over a table come to, and the turns that they begin.
use Rattle.std.specs.Prelude.{◌≡◌, ℕ, zero, suc, ◌+◌, ◌≤◌, ◌==◌, if◌then◌else◌, length}
use Rattle.teco_law_turns.specs.Table.{Table, IsClosed}
use Rattle.teco_law_turns.specs.Moves.{State, Move, Forward, Into, Back, Enters, IsStart}
use Rattle.teco_law_turns.specs.Machines.{Covers}

-- some moves lead from one state to another
abbrev pub Lead : Table → ℕ → State → State → Type 0
Lead t zero s last = s ≡ last
Lead t (suc moves) s last = (new : State) × Move t s new × Lead t moves new last

-- in a closed table every state that a run comes to is covered
abbrev pub RunsAreCovered : Type 0
RunsAreCovered =
    (t : Table) (s last : State) (moves : ℕ) → IsClosed t → IsStart t s → Lead t moves s last → Covers t last

-- The turns that a move begins of the loop that is the innermost where so many are open: one where it returns to the
-- start of its body, and none otherwise.
abbrev pub turns_begun : ℕ → (t : Table) (s new : State) → Move t s new → ℕ
turns_begun depth t s new (Forward goes) = 0
turns_begun depth t s new (Into enters) = 0
turns_begun depth t s new (Back returns) = if length new.opened == depth then 1 else 0

-- some moves, none of which leaves a loop, begin n turns of it; it is the innermost where so many are open
abbrev pub Repeats : Table → ℕ → ℕ → State → ℕ → Type 0
Repeats t depth zero s n = n ≡ 0
Repeats t depth (suc moves) s n =
    (new : State) × (move : Move t s new) × (rest : ℕ)
    × (depth ≤ length new.opened) × Repeats t depth moves new rest
    × (n ≡ turns_begun depth t s new move + rest)

-- In a closed table a loop that a run enters takes, until it is left, at most the turns that the table has: the first,
-- and those that begin later.
abbrev pub TurnsAreBounded : Type 0
TurnsAreBounded =
    (t : Table) (start s new : State) (before moves n : ℕ)
    → IsClosed t → IsStart t start → Lead t before start s → Enters t s new
    → Repeats t (length new.opened) moves new n
    → suc n ≤ t.turns s.node
