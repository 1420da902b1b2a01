-- C, R, J and L.
use Rattle.std.specs.Prelude.{ℕ, zero, suc, ℤ, pos, negsuc, int_le, Bool, false, Option, Some, None, Result, Ok, Err}
use Rattle.std.specs.Prelude.{unwrap_or, if◌then◌else◌}
use Rattle.teco_model.specs.declared.kind.Motion.{Motion}
use Rattle.teco_model.specs.declared.kind.Motion.TheVariants.{Forward, Backward, To, Lines}
use Rattle.teco_verifier.specs.declared.values.Value.{Value}
use Rattle.teco_verifier.specs.declared.values.Interval.{Interval}
use Rattle.teco_verifier.specs.declared.values.Distances.{Distances}
use Rattle.teco_verifier.specs.declared.refusal.RefusalReason.{RefusalReason}
use Rattle.teco_verifier.specs.facts.Arguments.{KnownTaken}
use Rattle.teco_verifier.specs.facts.Attempt.{◌>>=◌}
use Rattle.teco_verifier.specs.facts.Facts.{Facts, nowhere}
use Rattle.teco_verifier.specs.facts.Shifts.{Shift, shifted, moving, shift_to, Foreseen, answering, silent_behind}
use Rattle.teco_verifier.specs.facts.Values.{single, pointer, plus, minus, interval_of}

-- the argument, 1 where there is none, and the interval of that
abbrev pub or_one : Option Value → Value
or_one value = unwrap_or value (single (pos 1))

abbrev pub count_of : Option Value → Distances → Interval
count_of value distances = interval_of distances (or_one value)

-- the place that the argument names
abbrev pub target : Motion → Option Value → Value
target Forward n = plus pointer (or_one n)
target Backward n = minus pointer (or_one n)
target To n = unwrap_or n (single (pos 0))
target Lines n = pointer

-- :C forward, and :R backward by a negative number, let nothing more be ahead
abbrev pub goes_forward : Motion → Interval → Bool
goes_forward Forward n = int_le (pos 0) n.lo
goes_forward Backward n = int_le n.hi (pos 0)
goes_forward m n = false

-- the answer of what may fail: -1 or 0
abbrev pub success : Interval
success = record { lo = negsuc 0; hi = pos 0 }

-- with a colon the pointer may be anywhere
abbrev pub perhaps_forward : Bool → Shift
perhaps_forward forward = moving nowhere (if forward then Some (pos 0) else None)

-- nL: where n is at least 1, what is ahead is not more; where it is at most 0, what is behind is not more
abbrev pub shift_by_lines : Option ℤ → Distances → Interval → Shift
shift_by_lines back distances n =
    if int_le (pos 1) n.lo then moving (record distances { fore = 0 }) (Some (pos 0))
    else if int_le n.hi (pos 0) then moving (record distances { back = 0 }) back
    else moving nowhere back

-- J alone goes to a saved place
abbrev pub goes_to_saved : Motion → Option Value → Bool
goes_to_saved To (Some n) = n.saved
goes_to_saved m n = false

-- To a place that is known to lie in the buffer; a saved one is somewhere in it.
abbrev pub shift_or_saved : Bool → Result Shift RefusalReason → Result Shift RefusalReason
shift_or_saved saved (Ok shift) = Ok shift
shift_or_saved saved (Err why) = if saved then Ok (moving nowhere None) else Err why

abbrev pub motion_to : Motion → ℕ → Option Value → Facts → Result Foreseen RefusalReason
motion_to m zero n facts = do
  shift ← shift_or_saved (goes_to_saved m n) (shift_to (target m n) facts.position.distances)
  silent_behind shift facts
motion_to m (suc colons) n facts = do
  known ← shifted (perhaps_forward (goes_forward m (count_of n facts.position.distances))) facts
  Ok (answering success known)

abbrev pub motion : Motion → ℕ → KnownTaken → Facts → Result Foreseen RefusalReason
motion Lines colons taken facts =
    silent_behind (shift_by_lines None facts.position.distances (count_of taken.value facts.position.distances)) facts
motion m colons taken facts = motion_to m colons taken.value facts
