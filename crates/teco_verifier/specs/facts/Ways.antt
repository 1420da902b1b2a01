-- The two ways of a test, and what is known on each.
use Rattle.std.specs.Prelude.{◌≡◌, ℕ, zero, suc, ℤ, pos, negsuc, neg_ℤ, ◌+◌, ◌+ℤ◌, ◌-ℤ◌, ◌≤ℤ◌, ⊤, max, int_le, Bool}
use Rattle.std.specs.Prelude.{true, ◌&&◌, not, Option, Some, None, option_map, if◌then◌else◌}
use Rattle.teco_model.specs.declared.kind.Test.{Test}
use Rattle.teco_model.specs.declared.kind.Test.TheVariants as test
use Rattle.teco_verifier.specs.declared.values.Value.{Value}
use Rattle.teco_verifier.specs.declared.values.Interval.{Interval}
use Rattle.teco_verifier.specs.declared.values.Distances.{Distances}
use Rattle.teco_verifier.specs.facts.Deletions.{positive}
use Rattle.teco_verifier.specs.facts.Facts.{Position, Answer, Facts, at_position}
use Rattle.teco_verifier.specs.facts.Shifts.{capped}
use Rattle.teco_verifier.specs.facts.Values.{interval_of}

-- Which numbers take a way: all, where the class of a character is asked.
pub data Numbers : Type 0 where
  Zero : Numbers
  NotZero : Numbers
  Negative : Numbers
  NotNegative : Numbers
  Positive : Numbers
  NotPositive : Numbers
  All : Numbers

-- those with which a test holds, and the others
abbrev pub holding : Test → Numbers
holding test.Zero = Zero
holding test.NotZero = NotZero
holding test.Negative = Negative
holding test.Positive = Positive
holding t = All

abbrev pub other : Numbers → Numbers
other Zero = NotZero
other NotZero = Zero
other Negative = NotNegative
other NotNegative = Negative
other Positive = NotPositive
other NotPositive = Positive
other All = All

-- a number takes the way
abbrev pub Takes : Numbers → ℤ → Type 0
Takes Zero v = v ≡ pos 0
Takes NotZero v = v ≡ pos 0 → ⊥
Takes Negative v = v ≤ℤ negsuc 0
Takes NotNegative v = pos 0 ≤ℤ v
Takes Positive v = pos 1 ≤ℤ v
Takes NotPositive v = v ≤ℤ pos 0
Takes All v = ⊤

-- may a number of an interval take it?
abbrev pub may_take : Numbers → Interval → Bool
may_take Zero i = int_le i.lo (pos 0) && int_le (pos 0) i.hi
may_take NotZero i = not (int_le (pos 0) i.lo && int_le i.hi (pos 0))
may_take Negative i = int_le i.lo (negsuc 0)
may_take NotNegative i = int_le (pos 0) i.hi
may_take Positive i = int_le (pos 1) i.hi
may_take NotPositive i = int_le i.lo (pos 0)
may_take All i = true

-- which -v take it where v do
abbrev pub opposite : Numbers → Numbers
opposite Negative = Positive
opposite NotNegative = NotPositive
opposite Positive = Negative
opposite NotPositive = NotNegative
opposite n = n

-- The least distance, not below m, with which the distance and k together take the way; there may be none.
abbrev pub least_taking : Numbers → ℕ → ℤ → Option ℕ
least_taking Zero m k = if int_le (pos m +ℤ k) (pos 0) then Some (positive (neg_ℤ k)) else None
least_taking NotZero m k =
    if int_le (pos 0) (pos m +ℤ k) && int_le (pos m +ℤ k) (pos 0) then Some (m + 1) else Some m
least_taking Negative m k = if int_le (pos m +ℤ k) (negsuc 0) then Some m else None
least_taking NotNegative m k = Some (max m (positive (neg_ℤ k)))
least_taking Positive m k = Some (max m (positive (pos 1 -ℤ k)))
least_taking NotPositive m k = if int_le (pos m +ℤ k) (pos 0) then Some m else None
least_taking All m k = Some m

-- a distance is known to be larger
abbrev pub with_back : Distances → ℕ → Distances
with_back distances m = capped (record distances { back = m })

abbrev pub with_fore : Distances → ℕ → Distances
with_fore distances m = capped (record distances { fore = m })

-- On a way a value that is plus or minus one of the distances, plus k, raises the least of that distance.
abbrev pub raised_by : Numbers → ℤ → ℤ → ℤ → Distances → Option Distances
raised_by n (pos (suc zero)) (pos zero) k distances =
    option_map (with_fore distances) (least_taking n distances.fore k)
raised_by n (negsuc zero) (pos zero) k distances =
    option_map (with_fore distances) (least_taking (opposite n) distances.fore (neg_ℤ k))
raised_by n (pos zero) (pos (suc zero)) k distances =
    option_map (with_back distances) (least_taking n distances.back k)
raised_by n (pos zero) (negsuc zero) k distances =
    option_map (with_back distances) (least_taking (opposite n) distances.back (neg_ℤ k))
raised_by n ahead behind k distances = Some distances

abbrev pub raised : Numbers → Value → Distances → Option Distances
raised n s distances =
    if int_le s.hi s.lo then raised_by n s.ahead s.behind s.lo distances else Some distances

-- The position on the way of some numbers; none where no number of the value takes it.
abbrev pub position_on : Numbers → Value → Position → Option Position
position_on n s position =
    if may_take n (interval_of position.distances s)
    then option_map (λ distances. record position { distances = distances }) (raised n s position.distances)
    else None

-- A search's answer is -1 where it found, and 0 where it failed: the position is that of the outcome that takes the
-- way, or what is known of both.
abbrev pub position_of : Numbers → Answer → Position → Option Position
position_of Zero answer position = Some answer.failed
position_of NotZero answer position = Some answer.found
position_of Negative answer position = Some answer.found
position_of NotNegative answer position = Some answer.failed
position_of Positive answer position = None
position_of n answer position = Some position

abbrev pub position_by : Numbers → Option Answer → Value → Position → Option Position
position_by n None s position = position_on n s position
position_by n (Some answer) s position = position_of n answer position

-- the facts on the way of some numbers, where the way is reached
abbrev pub way : Numbers → Option Answer → Value → Facts → Option Facts
way n answer s facts =
    option_map (λ position. at_position position facts) (position_by n answer s facts.position)
