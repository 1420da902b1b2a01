-- What is known of a number: an interval, or a linear value in Z and the pointer. Both are one thing, told in the
-- distances of the pointer from the end of the buffer and from its begin: Z is the sum of both, and . the latter. A
-- saved value is an interval that a saved register was asked for.
use Rattle.std.specs.Prelude.{ℕ, ℤ, pos, negsuc, ◌-◌, ◌^◌, ◌+ℤ◌, ◌-ℤ◌, ◌*ℤ◌, ◌≤ℤ◌, int_le, int_lt, int_div, min}
use Rattle.std.specs.Prelude.{unsigned_abs, FitsSigned, ⊤, ◌+◌, Bool, true, false, ◌&&◌, ◌||◌, Option, Some, None}
use Rattle.std.specs.Prelude.{if◌then◌else◌}
use Rattle.std.specs.Int.{int_min, int_max, w32}
use Rattle.teco_base.specs.declared.TheConstants.{LIMIT}
use Rattle.teco_verifier.specs.declared.values.Value.{Value}
use Rattle.teco_verifier.specs.declared.values.Interval.{Interval}
use Rattle.teco_verifier.specs.declared.values.Distances.{Distances}

-- a single number, and a number of an interval
abbrev pub single : ℤ → Value
single k = record { ahead = pos 0; behind = pos 0; lo = k; hi = k; saved = false }

abbrev pub value_in : Interval → Value
value_in i = record { ahead = pos 0; behind = pos 0; lo = i.lo; hi = i.hi; saved = false }

-- all 32-bit numbers
abbrev pub any_number : Interval
any_number = record { lo = negsuc (2 ^ 31 - 1); hi = pos (2 ^ 31 - 1) }

-- Z and .
abbrev pub size : Value
size = record { ahead = pos 1; behind = pos 1; lo = pos 0; hi = pos 0; saved = false }

abbrev pub pointer : Value
pointer = record { ahead = pos 0; behind = pos 1; lo = pos 0; hi = pos 0; saved = false }

-- sum and difference of numbers without a limit
abbrev pub plus : Value → Value → Value
plus s t = record {
  ahead = s.ahead +ℤ t.ahead;
  behind = s.behind +ℤ t.behind;
  lo = s.lo +ℤ t.lo;
  hi = s.hi +ℤ t.hi;
  saved = false;
}

abbrev pub minus : Value → Value → Value
minus s t = record {
  ahead = s.ahead -ℤ t.ahead;
  behind = s.behind -ℤ t.behind;
  lo = s.lo -ℤ t.hi;
  hi = s.hi -ℤ t.lo;
  saved = false;
}

-- The least that a number can be where the distances are at least these; unknown where one of them counts negatively.
abbrev pub least : Value → Distances → Option ℤ
least s distances =
    if int_lt s.ahead (pos 0) || int_lt s.behind (pos 0) then None
    else Some (pos distances.fore *ℤ s.ahead +ℤ pos distances.back *ℤ s.behind +ℤ s.lo)

-- a distance that is known not to be negative: its least, at most LIMIT
abbrev pub distance_of : Option ℤ → Option ℕ
distance_of None = None
distance_of (Some v) = if int_lt v (pos 0) then None else Some (min (unsigned_abs v) LIMIT)

-- how much a distance that is at least m, and at most LIMIT, counts at the least and at the most
abbrev pub least_share : ℕ → ℤ → ℤ
least_share m (pos c) = pos m *ℤ pos c
least_share m (negsuc c) = pos LIMIT *ℤ negsuc c

abbrev pub most_share : ℕ → ℤ → ℤ
most_share m (pos c) = pos LIMIT *ℤ pos c
most_share m (negsuc c) = pos m *ℤ negsuc c

-- the interval of a value
abbrev pub interval_of : Distances → Value → Interval
interval_of distances s = record {
  lo = least_share distances.fore s.ahead +ℤ least_share distances.back s.behind +ℤ s.lo;
  hi = most_share distances.fore s.ahead +ℤ most_share distances.back s.behind +ℤ s.hi;
}

-- a result that may leave 32 bits is any number
abbrev pub kept_in_32_bits : Interval → Interval
kept_in_32_bits i = if int_le (negsuc (2 ^ 31 - 1)) i.lo && int_le i.hi (pos (2 ^ 31 - 1))
    then i else any_number

-- a linear value is a*Z + b*. + k with a and b from -1 to 1, and k at most 2^29 in either direction
abbrev pub is_sign : ℤ → Bool
is_sign z = int_le (negsuc 0) z && int_le z (pos 1)

abbrev pub is_linear : Value → Bool
is_linear s =
    is_sign s.ahead && is_sign (s.behind -ℤ s.ahead) && int_le s.hi s.lo
    && int_le (negsuc (2 ^ 29 - 1)) s.lo && int_le s.hi (pos (2 ^ 29))

-- sums and differences stay linear where they can, and else are those of the intervals
abbrev pub linear_or : Interval → Value → Value
linear_or i exact = if is_linear exact then exact else value_in (kept_in_32_bits i)

abbrev pub interval_sum : Interval → Interval → Interval
interval_sum i j = record { lo = i.lo +ℤ j.lo; hi = i.hi +ℤ j.hi }

abbrev pub interval_difference : Interval → Interval → Interval
interval_difference i j = record { lo = i.lo -ℤ j.hi; hi = i.hi -ℤ j.lo }

abbrev pub sum : Distances → Value → Value → Value
sum distances s t = linear_or (interval_sum (interval_of distances s) (interval_of distances t)) (plus s t)

abbrev pub difference : Distances → Value → Value → Value
difference distances s t =
    linear_or (interval_difference (interval_of distances s) (interval_of distances t)) (minus s t)

-- a product lies between the corners
abbrev pub least_product : ℤ → Interval → ℤ
least_product x j = int_min (x *ℤ j.lo) (x *ℤ j.hi)

abbrev pub most_product : ℤ → Interval → ℤ
most_product x j = int_max (x *ℤ j.lo) (x *ℤ j.hi)

abbrev pub interval_product : Interval → Interval → Interval
interval_product i j = record {
  lo = int_min (least_product i.lo j) (least_product i.hi j);
  hi = int_max (most_product i.lo j) (most_product i.hi j);
}

abbrev pub product : Distances → Value → Value → Value
product distances s t =
    value_in (kept_in_32_bits (interval_product (interval_of distances s) (interval_of distances t)))

-- a quotient lies between the corners, too, where the divisor is not 0
abbrev pub least_quotient : ℤ → Interval → ℤ
least_quotient x j = int_min (int_div x j.lo) (int_div x j.hi)

abbrev pub most_quotient : ℤ → Interval → ℤ
most_quotient x j = int_max (int_div x j.lo) (int_div x j.hi)

abbrev pub interval_quotient : Interval → Interval → Interval
interval_quotient i j = record {
  lo = int_min (least_quotient i.lo j) (least_quotient i.hi j);
  hi = int_max (most_quotient i.lo j) (most_quotient i.hi j);
}

abbrev pub quotient : Distances → Value → Value → Value
quotient distances s t =
    value_in (kept_in_32_bits (interval_quotient (interval_of distances s) (interval_of distances t)))

-- an operation on the bits of two single numbers; of others it is any number
abbrev pub is_single : Interval → Bool
is_single i = int_le i.hi i.lo

abbrev pub bitwise : (ℤ → ℤ → ℤ) → Interval → Interval → Value
bitwise operation i j =
    if is_single i && is_single j then single (operation i.lo j.lo) else value_in any_number

-- the part of a value that the distances make
abbrev pub worth : Value → ℕ → ℕ → ℤ
worth s fore back = pos fore *ℤ s.ahead +ℤ pos back *ℤ s.behind

-- v is in the value s, where the pointer has these distances
pub record IsIn (s : Value) (fore back : ℕ) (v : ℤ) : Type 0 where
  pub low : (worth s fore back +ℤ s.lo) ≤ℤ v
  pub high : v ≤ℤ (worth s fore back +ℤ s.hi)

-- a number that is saved is a place of the buffer
abbrev pub IsPlaceIf : Bool → ℕ → ℕ → ℤ → Type 0
IsPlaceIf true fore back v = (pos 0 ≤ℤ v) × (v ≤ℤ pos (fore + back))
IsPlaceIf false fore back v = ⊤

-- v is a number that may be pending, in the value s
pub record IsValue (fore back : ℕ) (s : Value) (v : ℤ) : Type 0 where
  pub is : IsIn s fore back v
  pub fits : FitsSigned w32 v
  pub saved : IsPlaceIf s.saved fore back v

-- v is in the interval i
pub record IsWithin (i : Interval) (v : ℤ) : Type 0 where
  pub low : i.lo ≤ℤ v
  pub high : v ≤ℤ i.hi
