-- A text is a list of characters, each a byte; a place is a number from 0 to its length.
use Rattle.std.specs.Prelude.{ℕ, ◌-◌, List, ◌++◌, take, drop, nat_le, if◌then◌else◌}

-- the characters from place a up to place b
abbrev pub range : List ℕ → ℕ → ℕ → List ℕ
range text a b = take (b - a) (drop a text)

-- the text with other characters in the stead of those from a up to b
abbrev pub text_after_replacement : List ℕ → ℕ → ℕ → List ℕ → List ℕ
text_after_replacement text a b new = take a text ++ new ++ drop b text

-- the text without the characters from a up to b
abbrev pub text_after_deletion : List ℕ → ℕ → ℕ → List ℕ
text_after_deletion text a b = take a text ++ drop b text

-- the text with new characters at a place
abbrev pub text_after_insertion : List ℕ → ℕ → List ℕ → List ℕ
text_after_insertion text at new = text_after_replacement text at at new

-- Where a pointer goes when the characters from a up to b are deleted: from inside them to a, and from behind them back
-- with the text.
abbrev pub pointer_after_deletion : ℕ → ℕ → ℕ → ℕ
pointer_after_deletion a b pointer =
    if nat_le pointer a then pointer else if nat_le pointer b then a else pointer - (b - a)
