-- What an element that moves the pointer, or edits the buffer, does to what is known of the position.
use Rattle.std.specs.Prelude.{ℕ, ℤ, pos, ◌+ℤ◌, min, List, map, Bool, true, false, ◌||◌, if◌then◌else◌, Option, Some}
use Rattle.std.specs.Prelude.{None, Result, Ok, Err, is_ok}
use Rattle.teco_base.specs.declared.TheConstants.{LIMIT}
use Rattle.teco_poly.specs.Polynomial.{Polynomial, number}
use Rattle.teco_verifier.specs.declared.values.Value.{Value}
use Rattle.teco_verifier.specs.declared.values.Interval.{Interval}
use Rattle.teco_verifier.specs.declared.values.Distances.{Distances}
use Rattle.teco_verifier.specs.declared.refusal.RefusalReason.{RefusalReason}
use Rattle.teco_verifier.specs.declared.refusal.RefusalReason.TheVariants as refusal
use Rattle.teco_verifier.specs.facts.Arguments.{settled, levels_after_answer}
use Rattle.teco_verifier.specs.facts.Attempt.{◌>>=◌}
use Rattle.teco_verifier.specs.facts.Facts.{Position, Facts, none_saved, sum_of, with_arguments}
use Rattle.teco_verifier.specs.facts.Values.{size, pointer, minus, least, distance_of, value_in}

-- the least distances afterwards, how much ahead falls at the least, if that is known, how much longer the buffer
-- grows at the most, and whether what is saved may be no place any more
pub record Shift : Type 0 where
  pub distances : Distances
  pub fall : Option ℤ
  pub growth : Polynomial
  pub ends : Bool

-- a fall is done for every open iteration; one that is unknown makes it unknown
abbrev pub fall_after : Option ℤ → Option ℤ → Option ℤ
fall_after (Some v) (Some fall) = Some (fall +ℤ v)
fall_after None fall = None
fall_after (Some v) None = None

-- where the fall is unknown or negative, all that is held may be ahead
abbrev pub ahead_after : Option ℤ → Polynomial → Polynomial → Polynomial
ahead_after (Some (pos v)) held ahead = ahead
ahead_after fall held ahead = held

-- distances count up to LIMIT
abbrev pub capped : Distances → Distances
capped distances = record { back = min distances.back LIMIT; fore = min distances.fore LIMIT }

-- what is still saved
abbrev pub saved_after : Bool → List Bool → List Bool
saved_after ends saved = if ends then none_saved else saved

-- the position behind a shift, where so much is held
abbrev pub position_after : Shift → Polynomial → Position → Position
position_after shift held position = record {
  distances = capped shift.distances;
  falls = map (fall_after shift.fall) position.falls;
  ahead = ahead_after shift.fall held position.ahead;
  saved = saved_after shift.ends position.saved;
}

-- what is known behind a shift: what is pending is settled with what was known before it
abbrev pub facts_behind : Shift → Polynomial → Facts → Facts
facts_behind shift held facts = record facts {
  arguments = settled facts.position.distances shift.ends facts.arguments;
  position = position_after shift held facts.position;
  held = held;
}

abbrev pub shifted : Shift → Facts → Result Facts RefusalReason
shifted shift facts = do
  held ← sum_of facts.held shift.growth
  Ok (facts_behind shift held facts)

-- a shift that is no growth
abbrev pub moving : Distances → Option ℤ → Shift
moving distances fall = record { distances = distances; fall = fall; growth = number 0; ends = false }

-- a shift that ends all that is saved
abbrev pub ending : Shift → Shift
ending shift = record shift { ends = true }

-- a least distance, or the refusal
abbrev pub known_distance : RefusalReason → Option ℕ → Result ℕ RefusalReason
known_distance why (Some n) = Ok n
known_distance why None = Err why

abbrev pub distance : RefusalReason → Value → Distances → Result ℕ RefusalReason
distance why s distances = known_distance why (distance_of (least s distances))

-- To a place: it is known to lie in the buffer, its distances become those of the pointer, and what is ahead falls by
-- what the place is behind the pointer.
abbrev pub shift_to : Value → Distances → Result Shift RefusalReason
shift_to place distances = do
  back ← distance refusal.Place place distances
  fore ← distance refusal.Place (minus size place) distances
  Ok (moving (record { back = back; fore = fore }) (least (minus place pointer) distances))

-- a value that is known to be a place of the buffer: it is saved, or its distances tell it
abbrev pub is_place : Value → Distances → Bool
is_place n distances = n.saved || is_ok (shift_to n distances)

-- What a command leaves and answers, as far as it is known.
pub record Foreseen : Type 0 where
  pub facts : Facts
  pub answer : Option Value

-- with no answer, and with one of an interval
abbrev pub silent : Facts → Foreseen
silent facts = record { facts = facts; answer = None }

abbrev pub answering : Interval → Facts → Foreseen
answering i facts = record { facts = facts; answer = Some (value_in i) }

abbrev pub silent_behind : Shift → Facts → Result Foreseen RefusalReason
silent_behind shift facts = do
  known ← shifted shift facts
  Ok (silent known)

-- the facts behind a command that took its arguments
abbrev pub facts_answered : Foreseen → Facts
facts_answered known = with_arguments (levels_after_answer known.answer known.facts.arguments) known.facts
