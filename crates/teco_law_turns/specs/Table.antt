-- A table over the nodes of an expanded program at one N, and the number of steps that is printed of it.
use Rattle.std.specs.Prelude.{◌≡◌, ℕ, zero, suc, ◌+◌, ◌-◌, ◌*◌, ◌<◌, ◌≤◌, Bool, ℤ, pos, ◌+ℤ◌, ◌≤ℤ◌, List, [], ◌∷◌}
use Rattle.std.specs.Prelude.{◌++◌, Option, Some, None, MatchOption, ◌⊎◌, ⊤}
use Rattle.std.specs.List.{AllByRecursion}

-- The nodes are 0, 1 and so on, below the size; a loop goes by the number of its begin node. What is held is the buffer
-- and the unread input; what is ahead is the part of it behind the pointer.
pub record Table : Type 0 where
  pub size : ℕ
  -- whether a run may come to the node: moves lead to such nodes alone
  pub reached : ℕ → Bool
  -- the most steps that the node's element takes
  pub own : ℕ → ℕ
  -- the loops round the node, the innermost first
  pub loops : ℕ → List ℕ
  -- of a loop's begin node its end node; of any other node the node itself
  pub end : ℕ → ℕ
  -- of a loop the most turns that it takes, and the most that what is held grows in a turn
  pub turns : ℕ → ℕ
  pub growth : ℕ → ℕ
  -- the most that is held before the node, and the most that is ahead
  pub held_most : ℕ → ℕ
  pub ahead_most : ℕ → ℕ
  -- by how much at least what is ahead before the node has fallen since the turn of a loop began, if that is known
  pub fall : ℕ → ℕ → Option ℤ

-- the sum of f over the numbers below n
abbrev pub sum_below : (ℕ → ℕ) → ℕ → ℕ
sum_below f zero = 0
sum_below f (suc n) = sum_below f n + f n

-- the product of f over a list
abbrev pub product_by : (ℕ → ℕ) → List ℕ → ℕ
product_by f [] = 1
product_by f (x ∷ xs) = f x * product_by f xs

-- a node counts with its own steps, once for each turn of each loop round it
abbrev pub weight_of : Table → ℕ → ℕ
weight_of t i = t.own i * product_by t.turns (t.loops i)

-- the number that is printed is the sum over the nodes
abbrev pub commands : Table → ℕ
commands t = sum_below (weight_of t) t.size

-- the node behind the innermost of some loops; behind all nodes where there is none
abbrev pub behind : Table → List ℕ → ℕ
behind t [] = t.size
behind t (l ∷ ls) = suc (t.end l)

-- what is ahead has fallen since a start by at least a fall, where that is known
abbrev pub HasFallen : Option ℤ → ℕ → ℕ → Type 0
HasFallen fall ahead start = MatchOption fall ⊤ (λ v. (pos ahead +ℤ v) ≤ℤ pos start)

-- the fall is known, and at least n
abbrev pub IsAtLeast : ℕ → Option ℤ → Type 0
IsAtLeast n fall = MatchOption fall ⊥ (λ v. pos n ≤ℤ v)

-- A loop is kept: its body begins with what is known at the loop, of what is ahead and of the falls outside, and what
-- is ahead does not rise in a turn.
pub record IsKept (t : Table) (l : ℕ) : Type 0 where
  pub ahead : t.ahead_most l ≤ t.ahead_most (suc l)
  pub falls : AllByRecursion (λ o. t.fall (suc l) o ≡ t.fall l o) (t.loops l)
  pub own : IsAtLeast 0 (t.fall (t.end l) l)

-- A loop is lost: in its body all that is held may be ahead, and no fall outside is known.
pub record IsLost (t : Table) (l : ℕ) : Type 0 where
  pub ahead : t.held_most (suc l) ≤ t.ahead_most (suc l)
  pub falls : AllByRecursion (λ o. t.fall (suc l) o ≡ None) (t.loops l)

-- how a loop lies among the nodes: it ends inside of those round it, and they are round each node of its body, behind
-- it
pub record IsNested (t : Table) (l : ℕ) : Type 0 where
  pub inside : t.end l < behind t (t.loops l)
  pub first : t.loops (suc l) ≡ l ∷ t.loops l
  pub body : (j : ℕ) → l < j → j ≤ t.end l → (inner : List ℕ) × (t.loops j ≡ inner ++ l ∷ t.loops l)

-- what a closed table says of a loop
pub record IsClosedLoop (t : Table) (l : ℕ) : Type 0 where
  pub nested : IsNested t l
  -- at the start of its last turn no more is held than at the start of its body
  pub room : t.held_most l + (t.turns l - 1) * t.growth l ≤ t.held_most (suc l)
  -- a turn grows what is held by no more than its growth
  pub grows : t.held_most (t.end l) ≤ t.held_most (suc l) + t.growth l
  -- at the start of a turn nothing has fallen in it
  pub fresh : t.fall (suc l) l ≡ Some (pos 0)
  pub outside : IsKept t l ⊎ IsLost t l

-- a table is closed where each of its loops is
pub record IsClosed (t : Table) : Type 0 where
  pub loop : (l : ℕ) → l < t.end l → IsClosedLoop t l
