-- What a match is and which match a search finds, as relations; and that the definition finds it.
use Rattle.std.specs.Prelude.{◌≡◌, ℕ, zero, suc, ◌+◌, ◌<◌, ◌≤◌, List, [], ◌∷◌, slice_get, Option, Some, MatchOption}
use Rattle.std.specs.Prelude.{Ok, not, Bool, IsTrue}
use Rattle.teco_model.specs.Match.{is_in, is_space_or_tab, here, first_from, last_before, forward, backward}
use Rattle.teco_model.specs.Pattern.{Pattern, pattern, minimum}
use Rattle.teco_model.specs.Registers.{Registers}
use Rattle.teco_model.specs.declared.pattern.Item.{Item}
use Rattle.teco_model.specs.declared.pattern.Item.TheVariants as item
use Rattle.teco_model.specs.declared.pattern.Span.{Span}

-- a character that passes stands at a place
abbrev pub HasAt : (ℕ → Bool) → List ℕ → ℕ → Type 0
HasAt passes text at = (c : ℕ) × (slice_get text at ≡ Some c) × IsTrue (passes c)

-- one character that passes
pub record IsOne (passes : ℕ → Bool) (text : List ℕ) (start end : ℕ) : Type 0 where
  pub has : HasAt passes text start
  pub ends : end ≡ start + 1

-- the longest run of characters that pass, at least one
pub record IsRun (passes : ℕ → Bool) (text : List ℕ) (start end : ℕ) : Type 0 where
  pub some : start < end
  pub each : (at : ℕ) → start ≤ at → at < end → HasAt passes text at
  pub longest : HasAt passes text end → ⊥

-- an element matches from a start to an end
abbrev pub Matches : Item → List ℕ → ℕ → ℕ → Type 0
Matches (item.Is c) = IsOne (is_in c)
Matches (item.IsNot c) = IsOne (λ b. not (is_in c b))
Matches item.Blanks = IsRun is_space_or_tab

-- elements match in turn, each where the one before it ended
abbrev pub InTurn : List Item → List ℕ → ℕ → ℕ → Type 0
InTurn [] text start end = start ≡ end
InTurn (i ∷ items) text start end =
    (middle : ℕ) × Matches i text start middle × InTurn items text middle end

-- a match of a pattern is one of its elements in turn; a pattern of no elements has none
abbrev pub IsMatch : Pattern → List ℕ → Span → Type 0
IsMatch [] text span = ⊥
IsMatch (i ∷ items) text span = InTurn (i ∷ items) text span.start span.end

-- the match that starts at a place
pub record IsMatchAt (pattern : Pattern) (text : List ℕ) (at : ℕ) (span : Span) : Type 0 where
  pub starts : span.start ≡ at
  pub matches : IsMatch pattern text span

-- the match of the least start at a place or behind it
pub record IsFirstFrom (pattern : Pattern) (text : List ℕ) (at : ℕ) (span : Span) : Type 0 where
  pub from : at ≤ span.start
  pub matches : IsMatch pattern text span
  pub least :
      (other : Span) → IsMatch pattern text other → at ≤ other.start → span.start ≤ other.start

-- no start at a place or behind it has a match
abbrev pub HasNoneFrom : Pattern → List ℕ → ℕ → Type 0
HasNoneFrom pattern text at = (span : Span) → IsMatch pattern text span → at ≤ span.start → ⊥

-- the match of the greatest start before a place
pub record IsLastBefore (pattern : Pattern) (text : List ℕ) (at : ℕ) (span : Span) : Type 0 where
  pub before : span.start < at
  pub matches : IsMatch pattern text span
  pub greatest :
      (other : Span) → IsMatch pattern text other → other.start < at → other.start ≤ span.start

-- no start before a place has a match
abbrev pub HasNoneBefore : Pattern → List ℕ → ℕ → Type 0
HasNoneBefore pattern text at = (span : Span) → IsMatch pattern text span → span.start < at → ⊥

-- the nth of such spans from a place on: each next one is such from where the last leads to
abbrev pub IsNth : (ℕ → Span → Type 0) → (Span → ℕ) → ℕ → ℕ → Span → Type 0
IsNth Such onward at zero span = ⊥
IsNth Such onward at (suc zero) span = Such at span
IsNth Such onward at (suc (suc n)) span =
    (last : Span) × Such at last × IsNth Such onward (onward last) (suc n) span

-- the nth match from a place on: of the least start from there, then of the least from each end
abbrev pub IsForward : Pattern → List ℕ → ℕ → ℕ → Span → Type 0
IsForward pattern text = IsNth (IsFirstFrom pattern text) (λ last. last.end)

-- the nth match back from a place: the starts descend, from the greatest before the place
abbrev pub IsBackward : Pattern → List ℕ → ℕ → ℕ → Span → Type 0
IsBackward pattern text = IsNth (IsLastBefore pattern text) (λ last. last.start)

-- what is found is such, and where nothing is found there is none
abbrev pub Finds : (Span → Type 0) → Option Span → Type 0
Finds Such found = MatchOption found ((span : Span) → Such span → ⊥) Such

-- a start has at most one end
abbrev pub OneEnd : Type 0
OneEnd =
    (pattern : Pattern) (text : List ℕ) (a b : Span) →
    IsMatch pattern text a → IsMatch pattern text b → a.start ≡ b.start → a.end ≡ b.end

-- the match at a place
abbrev pub HereFinds : Type 0
HereFinds =
    (pattern : Pattern) (text : List ℕ) (at : ℕ) →
    Finds (IsMatchAt pattern text at) (here pattern text at)

-- the first match from a place on, and the last before a place
abbrev pub FirstFinds : Type 0
FirstFinds =
    (pattern : Pattern) (text : List ℕ) (at : ℕ) →
    MatchOption (first_from pattern text at) (HasNoneFrom pattern text at)
    (IsFirstFrom pattern text at)

abbrev pub LastFinds : Type 0
LastFinds =
    (pattern : Pattern) (text : List ℕ) (at : ℕ) →
    MatchOption (last_before pattern text at) (HasNoneBefore pattern text at)
    (IsLastBefore pattern text at)

-- the nth match in either direction; where nothing is found, there are fewer than n
abbrev pub ForwardFinds : Type 0
ForwardFinds =
    (pattern : Pattern) (text : List ℕ) (at n : ℕ) →
    Finds (IsForward pattern text at n) (forward pattern text at n)

abbrev pub BackwardFinds : Type 0
BackwardFinds =
    (pattern : Pattern) (text : List ℕ) (at n : ℕ) →
    Finds (IsBackward pattern text at n) (backward pattern text at n)

-- where a search text has a least length, no match of what it says is shorter
abbrev pub NoneIsShorter : Type 0
NoneIsShorter =
    (registers : Registers) (exact : Bool) (search : List ℕ) (least : ℕ) (p : Pattern) →
    minimum search ≡ Ok (Some least) → pattern registers exact search ≡ Ok p →
    (text : List ℕ) (span : Span) → IsMatch p text span → span.start + least ≤ span.end
