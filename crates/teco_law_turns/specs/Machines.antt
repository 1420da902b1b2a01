-- A machine that follows a table ends within the printed number of steps.
use Rattle.std.specs.Prelude.{◌≡◌, ℕ, zero, suc, ◌≤◌, map, true, Option, Some, None, ◌⊎◌}
use Rattle.std.specs.Option.{option_and_then}
use Rattle.teco_law_turns.specs.Table.{Table, IsClosed, commands}
use Rattle.teco_law_turns.specs.Moves.{State, Move, IsStart}

-- what a machine is after n steps; nothing once it has ended
abbrev pub after_steps : {M : Type 0} → (M → Option M) → ℕ → M → Option M
after_steps step zero x = Some x
after_steps step (suc n) x = option_and_then step (after_steps step n x)

-- the table covers a state: its node may be reached, with these open loops, and no more is held and ahead than the
-- table has
pub record Covers (t : Table) (s : State) : Type 0 where
  pub reached : t.reached s.node ≡ true
  pub loops : map (λ o. o.begin) s.opened ≡ t.loops s.node
  pub held : s.held ≤ t.held_most s.node
  pub ahead : s.ahead ≤ t.ahead_most s.node

-- the machine ends in k steps, or shows then a state that a move leads to
abbrev pub EndsOrMoves : {M : Type 0} → (M → Option M) → (M → Option State) → Table → M → State → ℕ → Type 0
EndsOrMoves {M} step shown t x s k =
    (after_steps step k x ≡ None)
    ⊎ ((y : M) × (new : State) × (after_steps step k x ≡ Some y) × (shown y ≡ Some new) × Move t s new)

-- A machine shows a state where an element begins. It follows a table where each element that begins in a state that
-- the table covers takes at least one step and at most the node's own, and then the machine has ended or has moved.
abbrev pub Follows : {M : Type 0} → (M → Option M) → (M → Option State) → Table → Type 0
Follows {M} step shown t =
    (x : M) (s : State) → shown x ≡ Some s → Covers t s
    → (k : ℕ) × (1 ≤ k) × (k ≤ t.own s.node) × EndsOrMoves step shown t x s k

-- a machine that follows a closed table from a start has ended after the printed number of steps
abbrev pub MachinesEnd : Type 0 → Type 0
MachinesEnd M =
    (step : M → Option M) (shown : M → Option State) (t : Table) (x : M) (s : State)
    → IsClosed t → Follows step shown t → shown x ≡ Some s → IsStart t s → after_steps step (commands t) x ≡ None
