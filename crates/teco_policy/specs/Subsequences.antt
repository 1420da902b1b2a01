-- Texts that are got from others by leaving out characters.
use Rattle.std.specs.Prelude.{◌≡◌, ◌⊎◌, ℕ, ◌+◌, List, [], ◌∷◌, take, filter, not, Bool, ◌==◌}
use Rattle.std.specs.List.{list_any}

-- a text is another without some of its characters
abbrev pub IsSubsequence : List ℕ → List ℕ → Type 0
IsSubsequence [] text = Unit {0}
IsSubsequence (b ∷ part) [] = ⊥
IsSubsequence (b ∷ part) (c ∷ text) = ((b ≡ c) × IsSubsequence part text) ⊎ IsSubsequence (b ∷ part) text

-- is a character one of these?
abbrev pub is_one_of : List ℕ → ℕ → Bool
is_one_of characters b = list_any (λ c. c == b) characters

-- a text without each of these characters
abbrev pub without : List ℕ → List ℕ → List ℕ
without characters text = filter (λ b. not (is_one_of characters b)) text

-- what is left of a text without these characters is a subsequence of another
abbrev pub IsWithin : List ℕ → List ℕ → List ℕ → Type 0
IsWithin besides part whole = IsSubsequence (without besides part) whole

-- The place of the first character that is one too many: all before it is within, with it no more.
pub record IsFirstOutside (besides part whole : List ℕ) (at : ℕ) : Type 0 where
  pub front : IsWithin besides (take at part) whole
  pub breaks : IsWithin besides (take (at + 1) part) whole → ⊥
