-- S, FS, N and FN: what is known where they found, and where they failed.
use Rattle.std.specs.Prelude.{ℕ, suc, pos, int_le, int_lt, ◌+◌, ◌&&◌, List, [], ◌∷◌, length, true, Option, Some, None}
use Rattle.std.specs.Prelude.{Result, Ok, Err, if◌then◌else◌}
use Rattle.teco_base.specs.declared.code.Code.{Code}
use Rattle.teco_model.specs.declared.kind.Search.{Search}
use Rattle.teco_model.specs.declared.kind.Search.TheVariants.{Find, Replace, FindInPages, ReplaceInPages}
use Rattle.teco_model.specs.Element.{Element}
use Rattle.teco_model.specs.Pattern.{minimum}
use Rattle.teco_poly.specs.Polynomial.{number}
use Rattle.teco_verifier.specs.declared.values.Value.{Value}
use Rattle.teco_verifier.specs.declared.values.Interval.{Interval}
use Rattle.teco_verifier.specs.declared.values.Distances.{Distances}
use Rattle.teco_verifier.specs.declared.refusal.RefusalReason.{RefusalReason}
use Rattle.teco_verifier.specs.declared.refusal.RefusalReason.TheVariants as refusal
use Rattle.teco_verifier.specs.facts.Arguments.{arguments_of, levels_after_taking, levels_after_answer}
use Rattle.teco_verifier.specs.facts.Attempt.{◌>>=◌}
use Rattle.teco_verifier.specs.facts.Facts.{Position, Facts, nowhere, with_arguments, at_position}
use Rattle.teco_verifier.specs.facts.Joins.{joined_position}
use Rattle.teco_verifier.specs.facts.Motions.{count_of, success}
use Rattle.teco_verifier.specs.facts.Shifts.{Shift, moving, ending, shifted, position_after}
use Rattle.teco_verifier.specs.facts.Values.{value_in}

-- S and FS: a count that may be 0 may be refused by the machine; one that may be negative is not verified.
abbrev pub count_in_buffer : Interval → Result (Unit {0}) RefusalReason
count_in_buffer n =
    if int_le n.lo (pos 0) && int_le (pos 0) n.hi then Err refusal.Argument
    else if int_lt n.lo (pos 1) then Err refusal.Unverified
    else Ok tt

-- N and FN: one that may be below 1 may be refused by the machine.
abbrev pub count_in_pages : Interval → Result (Unit {0}) RefusalReason
count_in_pages n = if int_lt n.lo (pos 1) then Err refusal.Argument else Ok tt

abbrev pub count_allowed : Search → Interval → Result (Unit {0}) RefusalReason
count_allowed Find n = count_in_buffer n
count_allowed Replace n = count_in_buffer n
count_allowed FindInPages n = count_in_pages n
count_allowed ReplaceInPages n = count_in_pages n

-- A first value is refused.
abbrev pub count_checked : Search → Option Value → Option Value → Distances → Result (Unit {0}) RefusalReason
count_checked s None n distances = count_allowed s (count_of n distances)
count_checked s (Some m) n distances = Err refusal.Argument

-- the minimum length of what is sought: an empty text means the last one, and one with a register's text has none
abbrev pub known_minimum : Result (Option ℕ) Code → Result ℕ RefusalReason
known_minimum (Ok (Some least)) = Ok least
known_minimum (Ok None) = Err refusal.Unverified
known_minimum (Err c) = Err refusal.Fault

abbrev pub minimum_of : List ℕ → Result ℕ RefusalReason
minimum_of [] = Err refusal.Unverified
minimum_of (c ∷ text) = known_minimum (minimum (c ∷ text))

-- What is found is as long as the minimum, and lies ahead; the pointer goes behind it, or behind what replaces it. A
-- shorter buffer, and another page, end all that is saved.
abbrev pub shift_found : Search → ℕ → ℕ → Distances → Shift
shift_found Find least new distances =
    moving (record { back = distances.back + least; fore = 0 }) (Some (pos least))
shift_found Replace least new distances = record {
  distances = record { back = distances.back + new; fore = 0 };
  fall = Some (pos least);
  growth = number new;
  ends = true;
}
shift_found FindInPages least new distances = ending (moving (record { back = least; fore = 0 }) (Some (pos least)))
shift_found ReplaceInPages least new distances =
    record { distances = record { back = new; fore = 0 }; fall = Some (pos least); growth = number new; ends = true }

-- A failure goes to the begin of the buffer; of N and FN that is empty then. With two colons nothing moves.
abbrev pub shift_to_begin : Distances → Shift
shift_to_begin distances = moving (record { back = 0; fore = distances.back + distances.fore }) None

abbrev pub position_failed_in : ℕ → Facts → Position
position_failed_in (suc (suc colons)) facts = facts.position
position_failed_in colons facts =
    position_after (shift_to_begin facts.position.distances) facts.held facts.position

abbrev pub position_failed : Search → ℕ → Facts → Position
position_failed FindInPages colons facts = position_after (ending (moving nowhere None)) facts.held facts.position
position_failed ReplaceInPages colons facts = position_after (ending (moving nowhere None)) facts.held facts.position
position_failed s colons facts = position_failed_in colons facts

-- the facts where it failed: nothing was put in
abbrev pub facts_failed : Search → ℕ → Facts → Facts
facts_failed s colons facts = at_position (position_failed s colons facts) facts

-- the facts where it found
abbrev pub facts_found : Search → Element → Facts → Result Facts RefusalReason
facts_found s e facts = do
  least ← minimum_of e.text
  shifted (shift_found s least (length e.second) facts.position.distances) facts

-- An answer tells the outcomes apart; how much is held is known of both.
abbrev pub facts_of_answer : Facts → Facts → Result Facts RefusalReason
facts_of_answer found failed = do
  position ← joined_position found.position failed.position
  Ok (record found {
    arguments = levels_after_answer (Some (value_in success)) found.arguments;
    answer = Some (record { found = found.position; failed = failed.position });
    position = position;
  })

-- what is known before a search that took its arguments
abbrev pub facts_at_search : Search → Facts → Result Facts RefusalReason
facts_at_search s facts = do
  taken ← arguments_of facts.arguments.level
  counted ← count_checked s taken.first taken.value facts.position.distances
  Ok (with_arguments (levels_after_taking facts.arguments) facts)
