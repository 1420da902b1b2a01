-- The registers and their names: A to Z in either case, then 0 to 9.
use Rattle.std.specs.Prelude.{ℕ, ◌+◌, ◌-◌, Option, Some, None, if◌then◌else◌, nat_lt}
use Rattle.std.specs.Char.{is_ascii_uppercase, is_ascii_lowercase, is_ascii_digit}

-- the place of the register of this name, if it is the name of one
abbrev pub register_of : ℕ → Option ℕ
register_of name =
    if is_ascii_uppercase name then Some (name - 65)
    else if is_ascii_lowercase name then Some (name - 97)
    else if is_ascii_digit name then Some (name - 48 + 26)
    else None

-- the name of the register at this place, in upper case
abbrev pub register_name : ℕ → ℕ
register_name r = if nat_lt r 26 then 65 + r else 48 + (r - 26)
