-- The loops round the nodes, as one pass over the nodes tells them.
use Rattle.std.specs.Prelude.{◌≡◌, ℕ, suc, ◌<◌, ◌≤◌, List, [], ◌∷◌, ⊤}
use Rattle.std.specs.List.{AllByRecursion}
use Rattle.teco_law_turns.specs.Table.{Table, IsNested}

-- what a node is: the begin or the end of a loop, or neither
pub data LoopMark : Type 0 where
  Begin End Plain : LoopMark

-- the loops round the next node
abbrev pub onward : LoopMark → ℕ → List ℕ → List ℕ
onward Begin i ls = i ∷ ls
onward End i [] = []
onward End i (l ∷ ls) = ls
onward Plain i ls = ls

-- an end node ends the innermost loop
abbrev pub EndsInnermost : Table → LoopMark → ℕ → List ℕ → Type 0
EndsInnermost t End i (l ∷ ls) = t.end l ≡ i
EndsInnermost t End i [] = ⊥
EndsInnermost t mark i ls = ⊤

-- the table has the loops that the pass tells, and none is round a node behind its end
pub record IsPassed (t : Table) (mark : ℕ → LoopMark) : Type 0 where
  pub next : (i : ℕ) → suc i < t.size → t.loops (suc i) ≡ onward (mark i) i (t.loops i)
  pub ends : (i : ℕ) → i < t.size → EndsInnermost t (mark i) i (t.loops i)
  pub begins : (l : ℕ) → l < t.end l → (mark l ≡ Begin) × (t.end l < t.size)
  pub within : (i : ℕ) → i < t.size → AllByRecursion (λ l. i ≤ t.end l) (t.loops i)

-- each loop lies among the nodes as a closed table wants it
abbrev pub NodesNest : Type 0
NodesNest = (t : Table) (mark : ℕ → LoopMark) → IsPassed t mark → (l : ℕ) → l < t.end l → IsNested t l
