-- Classes of bytes. Case concerns ASCII letters alone.
use Rattle.std.specs.Prelude.{ℕ, ◌%◌, List, [], ◌∷◌, codes, Bool, false, ◌||◌, ◌==◌, Option, Some, None, if◌then◌else◌}
use Rattle.std.specs.Int.{is_in_range}
use Rattle.std.specs.Char.{is_ascii_uppercase, is_ascii_lowercase, is_ascii_digit, is_ascii_alphabetic}
use Rattle.std.specs.Char.{to_ascii_uppercase}
use Rattle.teco_base.specs.declared.bytes.TheConstants.{LF, VT, FF, CR, SPACE}

-- is it one of some bytes?
abbrev pub is_among : ℕ → List ℕ → Bool
is_among b [] = false
is_among b (c ∷ []) = b == c
is_among b (c ∷ d ∷ others) = b == c || is_among b (d ∷ others)

-- the entry that stands beside a byte, in a table of bytes and entries
abbrev pub beside : {X : Type 0} → ℕ → List ℕ → List X → Option X
beside b (c ∷ bytes) (entry ∷ entries) = if b == c then Some entry else beside b bytes entries
beside b bytes entries = None

-- blanks are skipped between elements: a space, CR, LF
abbrev pub is_blank : ℕ → Bool
is_blank b = b == SPACE || b == CR || b == LF

-- a line ends with LF, VT or FF
abbrev pub is_line_end : ℕ → Bool
is_line_end b = b == LF || b == VT || b == FF

abbrev pub is_letter : ℕ → Bool
is_letter = is_ascii_alphabetic

abbrev pub is_digit : ℕ → Bool
is_digit = is_ascii_digit

abbrev pub is_letter_or_digit : ℕ → Bool
is_letter_or_digit b = is_letter b || is_digit b

abbrev pub is_lower : ℕ → Bool
is_lower = is_ascii_lowercase

abbrev pub is_upper : ℕ → Bool
is_upper = is_ascii_uppercase

-- a symbol constituent is a letter, a digit, a point, an underscore or a dollar sign
abbrev pub is_symbol : ℕ → Bool
is_symbol b = is_letter_or_digit b || is_among b (codes "._$")

-- a lower case letter in upper case; any other byte as it is
abbrev pub to_upper : ℕ → ℕ
to_upper = to_ascii_uppercase

-- the control byte that a caret and the byte c stand for, where c is 64 to 95 or 97 to 122
abbrev pub control : ℕ → Option ℕ
control c = if is_in_range 64 95 c || is_in_range 97 122 c then Some (c % 32) else None
