-- D and K. Whatever is deleted, what was saved may lie behind the end of the buffer.
use Rattle.std.specs.Prelude.{ℕ, ℤ, pos, negsuc, neg_ℤ, ◌-◌, min, nat_le, ◌&&◌, Option, Some, None, Result, Ok, Err}
use Rattle.std.specs.Prelude.{if◌then◌else◌}
use Rattle.std.specs.Int.{int_max}
use Rattle.teco_model.specs.declared.kind.Unit.{Unit as Counted}
use Rattle.teco_model.specs.declared.kind.Unit.TheVariants.{Characters, Lines}
use Rattle.teco_verifier.specs.declared.values.Value.{Value}
use Rattle.teco_verifier.specs.declared.values.Interval.{Interval}
use Rattle.teco_verifier.specs.declared.values.Distances.{Distances}
use Rattle.teco_verifier.specs.declared.refusal.RefusalReason.{RefusalReason}
use Rattle.teco_verifier.specs.declared.refusal.RefusalReason.TheVariants as refusal
use Rattle.teco_verifier.specs.facts.Arguments.{KnownTaken}
use Rattle.teco_verifier.specs.facts.Attempt.{◌>>=◌}
use Rattle.teco_verifier.specs.facts.Facts.{Facts}
use Rattle.teco_verifier.specs.facts.Motions.{count_of, shift_by_lines}
use Rattle.teco_verifier.specs.facts.Shifts.{Shift, moving, ending, shift_to, Foreseen, silent_behind}

-- a number, and 0 for a negative one
abbrev pub positive : ℤ → ℕ
positive (pos n) = n
positive (negsuc n) = 0

-- nD: so many are known to be there, on either side
abbrev pub shift_by_characters : Distances → Interval → Shift
shift_by_characters distances n =
    moving
    (record { back = distances.back - positive (neg_ℤ n.lo); fore = distances.fore - positive n.hi })
    (Some (pos (positive n.lo)))

abbrev pub character_deletion : Distances → Interval → Result Shift RefusalReason
character_deletion distances n =
    if nat_le (positive n.hi) distances.fore && nat_le (positive (neg_ℤ n.lo)) distances.back
    then Ok (shift_by_characters distances n) else Err refusal.Deletion

-- the greater of what is known
abbrev pub greater_known : Option ℤ → Option ℤ → Option ℤ
greater_known (Some v) (Some w) = Some (int_max v w)
greater_known None w = w
greater_known (Some v) None = Some v

-- m,nK: both places are known to lie in the buffer
abbrev pub nearer : Shift → Shift → Shift
nearer from to =
    moving
    (record { back = min from.distances.back to.distances.back; fore = min from.distances.fore to.distances.fore })
    (greater_known from.fall to.fall)

abbrev pub range_deletion : Value → Value → Distances → Result Shift RefusalReason
range_deletion m n distances = do
  from ← shift_to m distances
  to ← shift_to n distances
  Ok (nearer from to)

-- nK: what is deleted is no more ahead
abbrev pub part_deletion : Option Value → Option Value → Facts → Result Foreseen RefusalReason
part_deletion (Some m) (Some n) facts = do
  shift ← range_deletion m n facts.position.distances
  silent_behind (ending shift) facts
part_deletion first value facts =
    let n = count_of value facts.position.distances in
    silent_behind (ending (shift_by_lines (Some (pos 0)) facts.position.distances n)) facts

-- m,nD is m,nK
abbrev pub deletion_of : Counted → Option Value → Option Value → Facts → Result Foreseen RefusalReason
deletion_of Characters (Some m) (Some n) facts = part_deletion (Some m) (Some n) facts
deletion_of Characters first value facts = do
  shift ← character_deletion facts.position.distances (count_of value facts.position.distances)
  silent_behind (ending shift) facts
deletion_of Lines first value facts = part_deletion first value facts

abbrev pub deletion : Counted → KnownTaken → Facts → Result Foreseen RefusalReason
deletion unit taken facts = deletion_of unit taken.first taken.value facts
