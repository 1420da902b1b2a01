-- Literals that each match of a pattern begins with.
use Rattle.std.specs.Prelude.{ℕ, ◌≡◌, ◌<◌, ◌≤◌, List, length, map, take, Option, IsSome, MatchOption}
use Rattle.memchr.specs.Find.{Nowhere, NoneBefore, OccursAt}
use Rattle.teco_model.specs.Match.{here}
use Rattle.teco_model.specs.declared.pattern.Class.TheVariants as class
use Rattle.teco_model.specs.declared.pattern.Item.{Item}
use Rattle.teco_model.specs.declared.pattern.Item.TheVariants as item

-- where there are such literals, they stand at the start of each match
abbrev pub Begins : List Item → List ℕ → Type 0
Begins items needle =
    0 < length needle → (text : List ℕ) (at : ℕ) → IsSome (here items text at) → OccursAt text needle at

-- a literal
abbrev pub literal : ℕ → Item
literal b = item.Is (class.Literal b)

-- literals, one at least, that a pattern begins with, and so each match of it
pub record IsNeedle (items : List Item) (needle : List ℕ) : Type 0 where
  pub some : 0 < length needle
  pub begins : Begins items needle
  pub are : map literal needle ≡ take (length needle) items

-- a pattern is these literals, and nothing else
pub record AreLiterals (items : List Item) (needle : List ℕ) : Type 0 where
  pub begin : IsNeedle items needle
  pub all : length items ≤ length needle

-- a needle stands nowhere from a place up to a later one, or to the end
abbrev pub NoneUpTo : List ℕ → List ℕ → ℕ → Option ℕ → Type 0
NoneUpTo needle text at next =
    MatchOption next (Nowhere (OccursAt text needle) at (length text))
    (NoneBefore (OccursAt text needle) at (length text))
