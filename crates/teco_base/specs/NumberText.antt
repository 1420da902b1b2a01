-- Numbers as they are typed: no leading zeros, and one zero for 0.
use Rattle.std.specs.Prelude.{ℕ, ℤ, List, false, true}
use Rattle.std.specs.Int.{w32, cast_unsigned}
use Rattle.std.specs.Fmt.{digits, signed_decimal}

-- in decimal, a negative number after a minus sign
abbrev pub decimal : ℤ → List ℕ
decimal n = signed_decimal n

-- the 32 bits, unsigned, in octal
abbrev pub octal : ℤ → List ℕ
octal n = digits 8 false (cast_unsigned w32 n)

-- the 32 bits, unsigned, in hexadecimal with letters in upper case
abbrev pub hex : ℤ → List ℕ
hex n = digits 16 true (cast_unsigned w32 n)
