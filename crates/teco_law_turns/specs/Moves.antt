-- States at the nodes of a table, the three moves between them, and the steps that a run takes.
use Rattle.std.specs.Prelude.{true, ◌≡◌, ℕ, zero, suc, ◌+◌, ◌<◌, ◌≤◌, nat_lt, if◌then◌else◌, ℤ, pos, ◌+ℤ◌, ◌≤ℤ◌, List}
use Rattle.std.specs.Prelude.{[], ◌∷◌, Option, Some, None, MatchOption, ⊤}
use Rattle.std.specs.List.{AllByRecursion}
use Rattle.teco_law_turns.specs.Table.{Table, IsAtLeast, IsClosed, commands}

-- an open loop, and how many turns come after the one that runs, if they are counted
pub record OpenLoop : Type 0 where
  pub begin : ℕ
  pub more : Option ℕ

-- where a run stands: the node, what is held and ahead before it, and the open loops, the innermost first
pub record State : Type 0 where
  pub node : ℕ
  pub held : ℕ
  pub ahead : ℕ
  pub opened : List OpenLoop

-- what is still open at a node of loops that were open before: those that end before it are left, from the innermost on
abbrev pub still_open : {X : Type 0} → (X → ℕ) → ℕ → List X → List X
still_open end j [] = []
still_open end j (x ∷ xs) = if nat_lt (end x) j then still_open end j xs else x ∷ xs

-- a fall that is known behind a move was known before it, and no more is claimed than what is ahead has fallen since
abbrev pub FallFollows : Option ℤ → Option ℤ → ℕ → ℕ → Type 0
FallFollows before after ahead new =
    MatchOption after ⊤ (λ w. MatchOption before ⊥ (λ v. (pos new +ℤ w) ≤ℤ (pos ahead +ℤ v)))

-- A run goes on to a later node. It may leave loops, and it may skip some; no turn begins. What is held grows by no
-- more than the most that the table has.
pub record Goes (t : Table) (s new : State) : Type 0 where
  pub later : s.node < new.node
  pub inside : new.node < t.size
  pub reached : t.reached new.node ≡ true
  pub loops : t.loops new.node ≡ still_open t.end new.node (t.loops s.node)
  pub opened : new.opened ≡ still_open (λ o. t.end o.begin) new.node s.opened
  pub held : new.held + t.held_most s.node ≤ s.held + t.held_most new.node
  pub ahead : new.ahead ≤ t.ahead_most new.node
  pub falls :
      AllByRecursion (λ l. FallFollows (t.fall s.node l) (t.fall new.node l) s.ahead new.ahead)
      (t.loops new.node)

-- where a turn begins, no more is held or ahead than before, and what is ahead is held
pub record BeginsTurn (s new : State) : Type 0 where
  pub held : new.held ≤ s.held
  pub ahead : new.ahead ≤ s.ahead
  pub within : new.ahead ≤ new.held

-- A run enters a loop: its first turn begins. A count is at most the turns that the table has; without one these are
-- more than what is ahead.
pub record Enters (t : Table) (s new : State) : Type 0 where
  pub is_loop : s.node < t.end s.node
  pub node : new.node ≡ suc s.node
  pub reached : t.reached new.node ≡ true
  pub more : Option ℕ
  pub opened : new.opened ≡ record { begin = s.node; more = more } ∷ s.opened
  pub begins : BeginsTurn s new
  pub turns : MatchOption more (t.ahead_most s.node < t.turns s.node) (λ c. c < t.turns s.node)

-- from one turn to the next a count goes down by one; without a count what is ahead has fallen by at least 1
abbrev pub CountsDown : Option ℕ → Option ℕ → Option ℤ → Type 0
CountsDown None more fall = (more ≡ None) × IsAtLeast 1 fall
CountsDown (Some c) more fall = (n : ℕ) × (c ≡ suc n) × (more ≡ Some n)

-- a run returns from the end of the innermost open loop to the start of its body: a further turn begins
pub record Returns (t : Table) (s new : State) : Type 0 where
  pub begin : ℕ
  pub more : Option ℕ
  pub left : Option ℕ
  pub outer : List OpenLoop
  pub at_end : s.node ≡ t.end begin
  pub node : new.node ≡ suc begin
  pub reached : t.reached new.node ≡ true
  pub old_opened : s.opened ≡ record { begin = begin; more = more } ∷ outer
  pub new_opened : new.opened ≡ record { begin = begin; more = left } ∷ outer
  pub begins : BeginsTurn s new
  pub counts : CountsDown more left (t.fall (t.end begin) begin)

-- a move is one of these three
pub data Move (t : Table) (s new : State) : Type 0 where
  Forward : Goes t s new → Move t s new
  Into : Enters t s new → Move t s new
  Back : Returns t s new → Move t s new

-- a run of some moves from a state takes n steps; it may stop within its last element
abbrev pub RunTakes : Table → ℕ → State → ℕ → Type 0
RunTakes t zero s n = n ≤ t.own s.node
RunTakes t (suc moves) s n =
    (new : State) × (own : ℕ) × (rest : ℕ)
    × Move t s new × (own ≤ t.own s.node) × RunTakes t moves new rest × (n ≡ own + rest)

-- a state at the first node, outside of all loops, within the most that the table has there
pub record IsStart (t : Table) (s : State) : Type 0 where
  pub node : s.node ≡ 0
  pub some : 0 < t.size
  pub reached : t.reached 0 ≡ true
  pub loops : t.loops 0 ≡ []
  pub opened : s.opened ≡ []
  pub held : s.held ≤ t.held_most 0
  pub ahead : s.ahead ≤ t.ahead_most 0

-- in a closed table every run takes at most the printed number of steps
abbrev pub RunsAreBounded : Type 0
RunsAreBounded =
    (t : Table) (s : State) (moves n : ℕ) → IsClosed t → IsStart t s → RunTakes t moves s n → n ≤ commands t
