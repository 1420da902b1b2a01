-- What the calls give that go through texts line by line.
use Rattle.std.specs.Prelude.{◌≡◌, ◌≢◌, ◌↔◌, ℕ, ◌-◌, ◌<◌, ◌≤◌, List, [], ◌∷◌, ◌++◌, length, take, drop}
use Rattle.std.specs.Prelude.{slice_index_or}
use Rattle.std.specs.List.{AllZip}
use Rattle.teco_policy.specs.Lines.{DifferAtMost, EndAlike, body, line_end, lines}
use Rattle.teco_policy.specs.declared.lines.FirstLine.{FirstLine}
use Rattle.teco_policy.specs.declared.lines.LastLine.{LastLine}
use Rattle.teco_policy.specs.Wordings.{IsSameOrFound}
use Rattle.teco_policy.specs.declared.alike.Rule.{Rule}
use Rattle.teco_policy.specs.declared.alike.Rule.TheVariants as rule
use Rattle.teco_policy.specs.declared.walks.Walked.{Walked}

-- a line, by what stands in it and its line end
pub record IsLineOf (inside end : List ℕ) : Type 0 where
  pub ends : line_end (inside ++ end) ≡ end
  pub has : body (inside ++ end) ≡ inside

-- such a line is the first of a text, with others behind it
pub record IsFirstOf (text inside end rest : List ℕ) : Type 0 where
  pub line : IsLineOf inside end
  pub is : lines text ≡ (inside ++ end) ∷ lines rest
  pub shorter : length rest < length text

abbrev pub IsLine : FirstLine → Type 0
IsLine line = IsLineOf line.body.now line.end.now

abbrev pub IsFirstLine : List ℕ → FirstLine → Type 0
IsFirstLine text line = IsFirstOf text line.body.now line.end.now line.rest.now

abbrev pub line_of : FirstLine → List ℕ
line_of line = line.body.now ++ line.end.now

-- a line is the last of a text with others before it
pub record IsLastOf (text front line : List ℕ) : Type 0 where
  pub is : lines text ≡ lines front ++ line ∷ []
  pub shorter : length front < length text

abbrev pub IsLastLine : List ℕ → LastLine → Type 0
IsLastLine text last = IsLastOf text last.front.now last.line.now

-- lines that stand at the same place are alike, by a rule
abbrev pub Alike : Rule → List ℕ → List ℕ → Type 0
Alike rule.Ends old new = EndAlike old new
Alike rule.Same old new = old ≡ new
Alike (rule.Others search) old new = IsSameOrFound search.now old new

-- both have a first line, and those are alike
pub record BeginAlike (R : List ℕ → List ℕ → Type 0) (old new old_rest new_rest : List (List ℕ)) : Type 0 where
  pub first : List ℕ
  pub other : List ℕ
  pub old_is : old ≡ first ∷ old_rest
  pub new_is : new ≡ other ∷ new_rest
  pub alike : R first other

abbrev pub DoNotBeginAlike : (List ℕ → List ℕ → Type 0) → List (List ℕ) → List (List ℕ) → Type 0
DoNotBeginAlike R old new = (a b : List (List ℕ)) → BeginAlike R old new a b → ⊥

-- so many lines are alike at the front, and others are left
pub record HasWalked (R : List ℕ → List ℕ → Type 0) (old new : List (List ℕ)) (count : ℕ) (a b : List (List ℕ)) : Type 0
  where
    pub old_within : count ≤ length old
    pub new_within : count ≤ length new
    pub front : AllZip R (take count old) (take count new)
    pub old_left : a ≡ drop count old
    pub new_left : b ≡ drop count new

-- all that are alike at the front
pub record HasWalkedAll (R : List ℕ → List ℕ → Type 0) (old new : List (List ℕ)) (count : ℕ) (a b : List (List ℕ)) :
    Type 0 where
  pub walked : HasWalked R old new count a b
  pub ends : DoNotBeginAlike R a b

abbrev pub Walks : Rule → List ℕ → List ℕ → Walked → Type 0
Walks by old new w = HasWalkedAll (Alike by) (lines old) (lines new) w.count (lines w.old.now) (lines w.new.now)

-- one more pair of lines counts so much
abbrev pub Counts : List ℕ → List ℕ → ℕ → Type 0
Counts a b more =
    (n : ℕ) (old new : List (List ℕ))
    → DifferAtMost n (a ∷ old) (b ∷ new) ↔ ((more ≤ n) × DifferAtMost (n - more) old new)

-- if neither of two lists of lines is empty, their last lines differ
abbrev pub EndUnlike : List (List ℕ) → List (List ℕ) → Type 0
EndUnlike old new =
    0 < length old → 0 < length new
    → slice_index_or old (length old - 1) [] ≢ slice_index_or new (length new - 1) []

-- two lists of lines end with the same line, and these are those before it
pub record EndTheSame (old new old_front new_front : List (List ℕ)) : Type 0 where
  pub last : List ℕ
  pub old_is : old ≡ old_front ++ last ∷ []
  pub new_is : new ≡ new_front ++ last ∷ []

-- two lists of lines without some common end
pub record HaveCommonEnd (old new old_front new_front : List (List ℕ)) : Type 0 where
  pub back : List (List ℕ)
  pub old_is : old ≡ old_front ++ back
  pub new_is : new ≡ new_front ++ back

-- so many lines of the first are left when the common end of two lists of lines is taken away
pub record IsWithoutEnd (old new : List (List ℕ)) (count : ℕ) : Type 0 where
  pub left : List (List ℕ)
  pub other : List (List ℕ)
  pub common : HaveCommonEnd old new left other
  pub ends : EndUnlike left other
  pub counts : count ≡ length left
