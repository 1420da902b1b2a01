-- The lines of a text: each ends behind a line end, LF, VT or FF, or at the end of the text.
use Rattle.std.specs.Prelude.{◌≡◌, ◌≢◌, ◌⊎◌, ℕ, ◌-◌, ◌≤◌, List, [], ◌∷◌, ◌++◌, length, take, filter, not}
use Rattle.std.specs.Prelude.{if◌then◌else◌}
use Rattle.std.specs.List.{AllZip}
use Rattle.teco_base.specs.Bytes.{is_line_end}

-- a character at the front of the first of some lines
abbrev pub in_first : ℕ → List (List ℕ) → List (List ℕ)
in_first b [] = (b ∷ []) ∷ []
in_first b (line ∷ others) = (b ∷ line) ∷ others

-- the lines of a text, each with its line end
abbrev pub lines : List ℕ → List (List ℕ)
lines [] = []
lines (b ∷ text) = if is_line_end b then (b ∷ []) ∷ lines text else in_first b (lines text)

-- the line end of a line; nothing where the text ends before one
abbrev pub line_end : List ℕ → List ℕ
line_end line = filter is_line_end line

-- what stands in a line, without its line end
abbrev pub body : List ℕ → List ℕ
body line = filter (λ b. not (is_line_end b)) line

-- two lines end alike
abbrev pub EndAlike : List ℕ → List ℕ → Type 0
EndAlike old new = line_end old ≡ line_end new

-- there are as many lines as before, and at most n of them differ from the one that stood at their place
abbrev pub DifferAtMost : ℕ → List (List ℕ) → List (List ℕ) → Type 0
DifferAtMost n [] [] = Unit {0}
DifferAtMost n [] (b ∷ new) = ⊥
DifferAtMost n (a ∷ old) [] = ⊥
DifferAtMost n (a ∷ old) (b ∷ new) =
    ((a ≡ b) × DifferAtMost n old new) ⊎ ((1 ≤ n) × DifferAtMost (n - 1) old new)

-- lines begin alike and end alike, and at most n of the old ones stand between
pub record StandBetween (n : ℕ) (old new : List (List ℕ)) : Type 0 where
  pub front : List (List ℕ)
  pub taken : List (List ℕ)
  pub put : List (List ℕ)
  pub back : List (List ℕ)
  pub old_is : old ≡ front ++ taken ++ back
  pub new_is : new ≡ front ++ put ++ back
  pub few : length taken ≤ n

-- At most n lines are changed: where there are as many as before, each at its place; otherwise those that stand
-- between a common front and a common end.
pub record ChangesAtMost (n : ℕ) (old new : List (List ℕ)) : Type 0 where
  pub at_places : length old ≡ length new → DifferAtMost n old new
  pub between : length old ≢ length new → StandBetween n old new

-- The number, from 1 on, of the first line that breaks what holds of lines at the same place: those before it keep it.
pub record IsFirstUnlike (Alike : List ℕ → List ℕ → Type 0) (old new : List (List ℕ)) (line : ℕ) : Type 0 where
  pub numbered : 1 ≤ line
  pub front : AllZip Alike (take (line - 1) old) (take (line - 1) new)
  pub breaks : AllZip Alike (take line old) (take line new) → ⊥
