-- Command strings, cut from an input.
use Rattle.std.specs.Prelude.{ℕ, ◌-◌, ◌≡◌, ◌<◌, ◌≤◌, List, [], ◌∷◌, length, slice_index, Bool, false, ◌&&◌, ◌==◌}
use Rattle.std.specs.Prelude.{nat_lt, Option, Some, None}
use Rattle.std.specs.Io.KnownBytes.{IsAtEnd}
use Rattle.teco_model.specs.Session.{string_end, IsCommandString}
use Rattle.teco_model.specs.declared.session.Limits.{Limits}
use Rattle.teco_session.specs.declared.strings.Piece.{Piece}
use Rattle.teco_session.specs.declared.strings.Piece.TheVariants.{Command, Rest}

-- whether there is a last byte and it is ESC
abbrev pub last_is_esc : List ℕ → Bool
last_is_esc bytes = nat_lt 0 (length bytes) && slice_index bytes (length bytes - 1) == 27

-- whether there is a first byte and it is ESC
abbrev pub first_is_esc : List ℕ → Bool
first_is_esc [] = false
first_is_esc (b ∷ bytes) = b == 27

-- the first two successive ESC are the last two bytes
abbrev pub IsEnded : List ℕ → Type 0
IsEnded bytes = string_end bytes ≡ Some (length bytes)

-- the front of what may yet be a command string: no end, and room for more
pub record IsUnended (limits : Limits) (bytes : List ℕ) : Type 0 where
  pub endless : string_end bytes ≡ None
  pub short : length bytes < limits.length

-- what is left of an input where no command string stands: as many bytes as one may have, or fewer at its end
pub record IsRest (limits : Limits) (unread : Option (List ℕ)) (bytes : List ℕ) : Type 0 where
  pub endless : string_end bytes ≡ None
  pub within : length bytes ≤ limits.length
  pub last : length bytes < limits.length → IsAtEnd unread

-- a piece of an input, and what is left behind it
abbrev pub IsPiece : Limits → Option (List ℕ) → List ℕ → Piece → Type 0
IsPiece limits unread bytes Command = IsCommandString limits bytes
IsPiece limits unread bytes Rest = IsRest limits unread bytes
