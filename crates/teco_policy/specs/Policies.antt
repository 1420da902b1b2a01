-- What an edit must not do to a text, by the text before it and the one behind it.
use Rattle.std.specs.Prelude.{◌≡◌, ◌≢◌, ◌↔◌, ℕ, ◌+◌, ◌*◌, ◌/◌, ◌<◌, ◌≤◌, List, [], length, take, All, Option}
use Rattle.std.specs.Prelude.{MatchOption, slice_index_or}
use Rattle.std.specs.List.{AllZip, count_by}
use Rattle.teco_base.specs.Bytes.{is_line_end}
use Rattle.teco_policy.specs.Lines.{ChangesAtMost, EndAlike, IsFirstUnlike, lines}
use Rattle.teco_policy.specs.Subsequences.{IsFirstOutside, IsSubsequence, without}
use Rattle.teco_policy.specs.Wordings.{IsSameOrFound}
use Rattle.teco_policy.specs.declared.breach.Breach.{Breach}
use Rattle.teco_policy.specs.declared.breach.Breach.TheVariants.{Added, Changed, Line, Resized, Taken}
use Rattle.teco_policy.specs.declared.breach.Place.{Place}
use Rattle.teco_policy.specs.declared.broken.Broken.{Broken}
use Rattle.teco_policy.specs.declared.policy.Policy.{Policy}
use Rattle.teco_policy.specs.declared.policy.Policy.TheVariants as policy

-- so many of each hundred lines of a text
abbrev pub percent_of : ℕ → List ℕ → ℕ
percent_of n text = n * length (lines text) / 100

-- What a policy wants of the text before an edit and of the one behind it.
abbrev pub Keeps : Policy → List ℕ → List ℕ → Type 0
-- nothing is taken
Keeps policy.KeepText old new = IsSubsequence old new
-- the text is as long as before
Keeps policy.KeepSize old new = length new ≡ length old
-- there are as many lines, and each ends alike
Keeps policy.KeepLines old new = AllZip EndAlike (lines old) (lines new)
-- as many lines that end alike, and only those change in which the search text was found
Keeps (policy.KeepOthers wording) old new = AllZip (IsSameOrFound wording) (lines old) (lines new)
-- nothing is added
Keeps policy.AddNothing old new = IsSubsequence new old
-- only these characters are added: without them nothing is
Keeps (policy.AddOnly characters) old new = IsSubsequence (without characters.items new) old
-- only these characters are taken: without them nothing is
Keeps (policy.TakeOnly characters) old new = IsSubsequence (without characters.items old) new
-- at most so many lines are changed
Keeps (policy.Most n) old new = ChangesAtMost n (lines old) (lines new)
-- at most so many of each hundred lines are changed
Keeps (policy.MostPercent n) old new = ChangesAtMost (percent_of n old) (lines old) (lines new)

-- an edit with these texts keeps each of the policies
unfoldable pub KeepEach : List Policy → List ℕ → List ℕ → Type 0
KeepEach policies old new = All (λ policy. Keeps policy old new) policies

-- whatever keeps a policy keeps the other
abbrev pub Implies : Policy → Policy → Type 0
Implies one other = (old new : List ℕ) → Keeps one old new → Keeps other old new

abbrev pub ImplyEach : List Policy → List Policy → Type 0
ImplyEach policies others = (old new : List ℕ) → KeepEach policies old new → KeepEach others old new

-- the number of the line that a place is in, from 1 on
abbrev pub line_number : List ℕ → ℕ → ℕ
line_number text at = count_by is_line_end (take at text) + 1

-- the first place of a text whose character has no place in another, and its line
pub record IsOutsideAt (besides part whole : List ℕ) (place : Place) : Type 0 where
  pub first : IsFirstOutside besides part whole place.at
  pub line : place.line ≡ line_number part place.at

-- so many lines are changed, and that is more than may be
pub record AreTooMany (most : ℕ) (old new : List (List ℕ)) (count : ℕ) : Type 0 where
  pub more : most < count
  pub counts : (n : ℕ) → ChangesAtMost n old new ↔ count ≤ n

-- Where a policy is broken, by the kind of the breach.
abbrev pub IsTaken : List ℕ → List ℕ → List ℕ → Breach → Type 0
IsTaken besides old new (Taken place) = IsOutsideAt besides old new place
IsTaken besides old new other = ⊥

abbrev pub IsAdded : List ℕ → List ℕ → List ℕ → Breach → Type 0
IsAdded besides old new (Added place) = IsOutsideAt besides new old place
IsAdded besides old new other = ⊥

abbrev pub IsResized : List ℕ → List ℕ → Breach → Type 0
IsResized old new Resized = length new ≢ length old
IsResized old new other = ⊥

abbrev pub IsUnlikeLine : (List ℕ → List ℕ → Type 0) → List ℕ → List ℕ → Breach → Type 0
IsUnlikeLine Alike old new (Line number) = IsFirstUnlike Alike (lines old) (lines new) number
IsUnlikeLine Alike old new other = ⊥

abbrev pub IsChangedTooMuch : ℕ → List ℕ → List ℕ → Breach → Type 0
IsChangedTooMuch most old new (Changed count) = AreTooMany most (lines old) (lines new) count
IsChangedTooMuch most old new other = ⊥

-- the first place at which a policy is broken
abbrev pub Breaks : Policy → List ℕ → List ℕ → Breach → Type 0
Breaks policy.KeepText old new = IsTaken [] old new
Breaks policy.KeepSize old new = IsResized old new
Breaks policy.KeepLines old new = IsUnlikeLine EndAlike old new
Breaks (policy.KeepOthers wording) old new = IsUnlikeLine (IsSameOrFound wording) old new
Breaks policy.AddNothing old new = IsAdded [] old new
Breaks (policy.AddOnly characters) old new = IsAdded characters.items old new
Breaks (policy.TakeOnly characters) old new = IsTaken characters.items old new
Breaks (policy.Most n) old new = IsChangedTooMuch n old new
Breaks (policy.MostPercent n) old new = IsChangedTooMuch (percent_of n old) old new

-- the first of some policies that is broken, by its place, and where: those before it are kept
pub record IsFirstBroken (policies : List Policy) (old new : List ℕ) (broken : Broken) : Type 0 where
  pub before : KeepEach (take broken.policy policies) old new
  pub within : broken.policy < length policies
  pub asked : Policy
  pub stands : asked ≡ slice_index_or policies broken.policy asked
  pub breaks : Breaks asked old new broken.breach

-- A policy is kept, or it is not and this is where.
abbrev pub Tells : Type 0 → (Breach → Type 0) → Option Breach → Type 0
Tells Kept Broken found = MatchOption found Kept (λ breach. Broken breach × (Kept → ⊥))
