-- Bytes that stand at a known distance from the start of each match of a pattern.
use Rattle.std.specs.Prelude.{ℕ, ◌+◌, ◌<◌, List, length, Bool, IsTrue, Option, IsSome, MatchOption}
use Rattle.memchr.specs.Find.{Nowhere, NoneBefore, NoneAfter, Passes, is_byte, is_byte2}
use Rattle.teco_model.specs.Match.{here, is_in}
use Rattle.teco_model.specs.declared.pattern.Item.{Item}
use Rattle.teco_model.specs.declared.pattern.Item.TheVariants as item
use Rattle.teco_find.specs.declared.anchor.Anchor.{Anchor}
use Rattle.teco_find.specs.declared.mark.SoughtByte.{SoughtByte}
use Rattle.teco_find.specs.declared.mark.SoughtByte.TheVariants as mark

-- is a byte one of a mark's
abbrev pub is_marked : SoughtByte → ℕ → Bool
is_marked (mark.One a) = is_byte a
is_marked (mark.Two a b) = is_byte2 a b

-- each character that an element matches is a byte of a mark
abbrev pub IsMarkedBy : Item → SoughtByte → Type 0
IsMarkedBy (item.Is c) m = (b : ℕ) → IsTrue (is_in c b) → IsTrue (is_marked m b)
IsMarkedBy (item.IsNot c) m = ⊥
IsMarkedBy item.Blanks m = ⊥

-- an anchor's mark stands at its distance from a place
pub record Stands (anchor : Anchor) (text : List ℕ) (at : ℕ) : Type 0 where
  pub within : at + anchor.distance < length text
  pub marked : Passes (is_marked anchor.mark) text (at + anchor.distance)

-- an anchor's mark stands at its distance from the start of each match
abbrev pub Anchors : List Item → Anchor → Type 0
Anchors items anchor = (text : List ℕ) (at : ℕ) → IsSome (here items text at) → Stands anchor text at

-- a match starts at a place
abbrev pub StartsAt : List Item → List ℕ → ℕ → Type 0
StartsAt items text at = IsSome (here items text at)

-- none starts from a place up to the next that is tried, or up to the end
abbrev pub IsNextTried : List Item → List ℕ → ℕ → Option ℕ → Type 0
IsNextTried items text at next =
    MatchOption next (Nowhere (StartsAt items text) at (length text))
    (NoneBefore (StartsAt items text) at (length text))

-- none starts before a place and behind the one that is tried, or before it at all
abbrev pub IsLastTried : List Item → List ℕ → ℕ → Option ℕ → Type 0
IsLastTried items text before last =
    MatchOption last (Nowhere (StartsAt items text) 0 before) (NoneAfter (StartsAt items text) 0 before)
