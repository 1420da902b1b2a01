-- Which numbers the code keeps.
use Rattle.std.specs.Prelude.{ℤ, List, Option, Some, None, pos, negsuc, ⊤, ◌+ℤ◌, ◌≤ℤ◌, ◌-◌, ◌^◌}
use Rattle.std.specs.List.{All}
use Rattle.teco_verifier.specs.facts.Values.{least_share, most_share}

-- 32-bit numbers in order
pub record IsRange (lo hi : ℤ) : Type 0 where
  pub ordered : lo ≤ℤ hi
  pub low : negsuc (2 ^ 31 - 1) ≤ℤ lo
  pub high : hi ≤ℤ pos (2 ^ 31 - 1)

-- how often distances count
pub record IsSmall (times : ℤ) : Type 0 where
  pub low : negsuc 7 ≤ℤ times
  pub high : times ≤ℤ pos 8

-- numbers in order, which have 32 bits wherever the pointer is
pub record IsNumber (ahead behind lo hi : ℤ) : Type 0 where
  pub ahead_low : negsuc 1 ≤ℤ ahead
  pub ahead_high : ahead ≤ℤ pos 2
  pub behind_low : negsuc 1 ≤ℤ behind
  pub behind_high : behind ≤ℤ pos 2
  pub range : IsRange lo hi
  pub low : negsuc (2 ^ 31 - 1) ≤ℤ (least_share 0 ahead +ℤ least_share 0 behind +ℤ lo)
  pub high : (most_share 0 ahead +ℤ most_share 0 behind +ℤ hi) ≤ℤ pos (2 ^ 31 - 1)

-- numbers that a sum or a difference of two of those may have
pub record IsPlace (ahead behind lo hi : ℤ) : Type 0 where
  pub ahead_low : negsuc 3 ≤ℤ ahead
  pub ahead_high : ahead ≤ℤ pos 4
  pub behind_low : negsuc 3 ≤ℤ behind
  pub behind_high : behind ≤ℤ pos 4
  pub ordered : lo ≤ℤ hi
  pub low : negsuc (2 ^ 34) ≤ℤ lo
  pub high : hi ≤ℤ pos (2 ^ 34)

-- how much may fall at a time
pub record IsNear (v : ℤ) : Type 0 where
  pub low : negsuc (2 ^ 40 - 1) ≤ℤ v
  pub high : v ≤ℤ pos (2 ^ 40)

-- what a distance counts lies between its extremes
pub record IsShare (share times : ℤ) : Type 0 where
  pub from : least_share 0 times ≤ℤ pos 0
  pub to : pos 0 ≤ℤ most_share 0 times
  pub low : least_share 0 times ≤ℤ share
  pub high : share ≤ℤ most_share 0 times
  pub least : negsuc (2 ^ 34) ≤ℤ share
  pub most : share ≤ℤ pos (2 ^ 34)

-- a fall to which more may be added, if it is known
pub record IsModest (fall : ℤ) : Type 0 where
  pub low : negsuc (2 ^ 62 - 1) ≤ℤ fall
  pub high : fall ≤ℤ pos (2 ^ 62)

abbrev pub IsSmallFall : Option ℤ → Type 0
IsSmallFall None = ⊤
IsSmallFall (Some fall) = IsModest fall

-- falls to each of which more may be added
abbrev pub AreSmall : List (Option ℤ) → Type 0
AreSmall falls = All IsSmallFall falls
