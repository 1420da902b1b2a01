-- Search texts without classes and registers.
use Rattle.std.specs.Prelude.{◌≡◌, ℕ, List, [], ◌∷◌, length, Bool, false, ◌==◌, ◌&&◌, not, All}
use Rattle.std.specs.List.{list_all}
use Rattle.teco_base.specs.Bytes.{is_among}

-- a byte of a search text that stands for more than itself: ^E ^N ^Q ^S ^X, or a caret
abbrev pub is_sign : ℕ → Bool
is_sign b = is_among b (5 ∷ 14 ∷ 17 ∷ 19 ∷ 24 ∷ 94 ∷ [])

abbrev pub IsPlain : List ℕ → Type 0
IsPlain text = All (λ b. is_sign b ≡ false) text

-- each match of a plain search text is as long as that: are matches known to have so many characters?
abbrev pub matches_have : ℕ → List ℕ → Bool
matches_have n text = list_all (λ b. not (is_sign b)) text && length text == n
