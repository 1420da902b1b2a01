-- How a fall is kept: one that is not known is the least number of 64 bits.
use Rattle.std.specs.Prelude.{ℤ, negsuc, ◌-◌, ◌^◌, int_lt, if◌then◌else◌, Option, Some, None}

abbrev pub unknown : ℤ
unknown = negsuc (2 ^ 63 - 1)

-- what a number tells
unfoldable pub known : ℤ → Option ℤ
known v = if int_lt unknown v then Some v else None

-- the number that tells it
abbrev pub kept : Option ℤ → ℤ
kept None = unknown
kept (Some v) = v
