-- Numbers are 32-bit, in two's complement: a whole-number result wraps to -2^31 .. 2^31 - 1.
use Rattle.std.specs.Prelude.{ℕ, ℤ, pos, negsuc, zero, suc, ◌+ℤ◌, ◌-ℤ◌, ◌*ℤ◌, Option, Some, None, bit_and, bit_or}
use Rattle.std.specs.Prelude.{int_div, unsigned_abs}
use Rattle.std.specs.Int.{w32, int_wrap, int_rem_euclid, cast_signed, cast_unsigned}

-- what is left of a whole number in 32 bits
abbrev pub in_32_bits : ℤ → ℤ
in_32_bits z = int_wrap w32 z

abbrev pub add : ℤ → ℤ → ℤ
add x y = in_32_bits (x +ℤ y)

abbrev pub sub : ℤ → ℤ → ℤ
sub x y = in_32_bits (x -ℤ y)

abbrev pub mul : ℤ → ℤ → ℤ
mul x y = in_32_bits (x *ℤ y)

-- the bits that both numbers have, and those that either has
abbrev pub and : ℤ → ℤ → ℤ
and x y = cast_signed w32 (bit_and (cast_unsigned w32 x) (cast_unsigned w32 y))

abbrev pub or : ℤ → ℤ → ℤ
or x y = cast_signed w32 (bit_or (cast_unsigned w32 x) (cast_unsigned w32 y))

-- the quotient is truncated towards zero before it wraps; there is none by zero
abbrev pub div : ℤ → ℤ → Option ℤ
div x (pos zero) = None
div x (pos (suc n)) = Some (in_32_bits (int_div x (pos (suc n))))
div x (negsuc n) = Some (in_32_bits (int_div x (negsuc n)))

-- a number as a byte: n mod 256
abbrev pub byte_of : ℤ → ℕ
byte_of n = unsigned_abs (int_rem_euclid n (pos 256))
