-- How the texts of comments spell bytes that comments can't have.
use Rattle.std.specs.Prelude.{◌≡◌, ◌≢◌, ℕ, ◌+◌, ◌-◌, ◌*◌, List, [], ◌∷◌, ◌++◌, ◌==◌, if◌then◌else◌}
use Rattle.std.specs.Prelude.{Option, Some, None}
use Rattle.std.specs.Int.{is_in_range}

-- the byte that a letter behind a backslash spells: n, r, t, f, or a backslash
abbrev pub byte_of : ℕ → Option ℕ
byte_of letter =
    if letter == 110 then Some 10
    else if letter == 114 then Some 13
    else if letter == 116 then Some 9
    else if letter == 102 then Some 12
    else if letter == 92 then Some 92
    else None

-- the value of a hexadecimal digit
abbrev pub digit_of : ℕ → Option ℕ
digit_of digit =
    if is_in_range 48 57 digit then Some (digit - 48)
    else if is_in_range 97 102 digit then Some (digit - 87)
    else if is_in_range 65 70 digit then Some (digit - 55)
    else None

-- a byte is the value of two digits
pub record AreDigits (high low b : ℕ) : Type 0 where
  pub first : ℕ
  pub second : ℕ
  pub high_is : digit_of high ≡ Some first
  pub low_is : digit_of low ≡ Some second
  pub value : b ≡ first * 16 + second

-- a piece of a text is how a byte is spelled: as it is, by a letter behind a backslash, or by x and two digits there
abbrev pub IsSpelling : List ℕ → ℕ → Type 0
IsSpelling (byte ∷ []) b = (byte ≢ 92) × (b ≡ byte)
IsSpelling (sign ∷ letter ∷ []) b = (sign ≡ 92) × (byte_of letter ≡ Some b)
IsSpelling (sign ∷ x ∷ high ∷ low ∷ []) b =
    (sign ≡ 92) × (x ≡ 120) × AreDigits high low b
IsSpelling other b = ⊥

-- a text begins with how a byte is spelled
pub record Begins (text : List ℕ) (b : ℕ) (behind : List ℕ) : Type 0 where
  pub piece : List ℕ
  pub spells : IsSpelling piece b
  pub written : text ≡ piece ++ behind

-- a text spells bytes, one after another
abbrev pub Spells : List ℕ → List ℕ → Type 0
Spells text [] = text ≡ []
Spells text (b ∷ bytes) = (behind : List ℕ) × Begins text b behind × Spells behind bytes
