-- Edges forward, as the check of a table sees them, and what an element does along one.
use Rattle.std.specs.Prelude.{true, ◌≡◌, ℕ, ◌<◌, ◌≤◌, ℤ, pos, ◌+ℤ◌, ◌≤ℤ◌, Option, MatchOption, ◌⊎◌, ⊤}
use Rattle.std.specs.List.{AllByRecursion}
use Rattle.teco_law_turns.specs.Table.{Table}
use Rattle.teco_law_turns.specs.Moves.{State, Goes, still_open}

-- how much more is held at most, and by how much at least what is ahead falls, if that is known
pub record Effect : Type 0 where
  pub grow : ℤ
  pub drop : Option ℤ

-- a fall that is known behind an edge was known before it, and is no larger than that and what the element adds
abbrev pub IsCarried : Option ℤ → Option ℤ → Option ℤ → Type 0
IsCarried drop before after =
    MatchOption after ⊤ (λ w. MatchOption before ⊥ (λ v. MatchOption drop ⊥ (λ d. w ≤ℤ (v +ℤ d))))

-- What is ahead behind an edge is at most what the table has there: it has fallen so far, or all that is held may be
-- ahead.
abbrev pub IsAheadBounded : Table → ℕ → ℕ → Option ℤ → Type 0
IsAheadBounded t i j drop =
    MatchOption drop ⊥ (λ d. pos (t.ahead_most i) ≤ℤ (pos (t.ahead_most j) +ℤ d))
    ⊎ (t.held_most j ≤ t.ahead_most j)

-- an edge from one node to a later one that the table's target covers
pub record IsEdge (t : Table) (i j : ℕ) (e : Effect) : Type 0 where
  pub later : i < j
  pub inside : j < t.size
  pub reached : t.reached j ≡ true
  pub loops : t.loops j ≡ still_open t.end j (t.loops i)
  pub held : (pos (t.held_most i) +ℤ e.grow) ≤ℤ pos (t.held_most j)
  pub ahead : IsAheadBounded t i j e.drop
  pub falls : AllByRecursion (λ o. IsCarried e.drop (t.fall i o) (t.fall j o)) (t.loops j)

-- an element does no more than an effect says
pub record Does (e : Effect) (s new : State) : Type 0 where
  pub held : pos new.held ≤ℤ (pos s.held +ℤ e.grow)
  pub ahead : MatchOption e.drop ⊤ (λ d. (pos new.ahead +ℤ d) ≤ℤ pos s.ahead)
  pub within : new.ahead ≤ new.held

-- an element that does no more than its edge says goes on
abbrev pub EdgesGo : Type 0
EdgesGo =
    (t : Table) (s new : State) (e : Effect)
    → s.held ≤ t.held_most s.node → s.ahead ≤ t.ahead_most s.node
    → IsEdge t s.node new.node e → Does e s new
    → new.opened ≡ still_open (λ o. t.end o.begin) new.node s.opened
    → Goes t s new
