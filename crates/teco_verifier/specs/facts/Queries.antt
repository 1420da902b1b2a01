-- Q, ^X and \.
use Rattle.std.specs.Prelude.{ℕ, zero, suc, pos, negsuc, Option, Some, None, Result, Ok, if◌then◌else◌}
use Rattle.teco_base.specs.declared.TheConstants.{LIMIT}
use Rattle.teco_model.specs.declared.kind.Query.{Query}
use Rattle.teco_model.specs.declared.kind.Query.TheVariants.{Number, Mode, Conversion}
use Rattle.teco_model.specs.Step.{takes}
use Rattle.teco_poly.specs.Polynomial.{number}
use Rattle.teco_verifier.specs.declared.values.Value.{Value}
use Rattle.teco_verifier.specs.declared.values.Interval.{Interval}
use Rattle.teco_verifier.specs.declared.values.Distances.{Distances}
use Rattle.teco_verifier.specs.declared.refusal.RefusalReason.{RefusalReason}
use Rattle.teco_verifier.specs.facts.Arguments.{KnownLevel, level_with, with_level, levels_after_taking, standing_value}
use Rattle.teco_verifier.specs.facts.Attempt.{◌>>=◌}
use Rattle.teco_verifier.specs.facts.Facts.{Facts, number_of, is_saved, with_arguments}
use Rattle.teco_verifier.specs.facts.Insertions.{insertion_of}
use Rattle.teco_verifier.specs.facts.Shifts.{Shift, moving, shifted, Foreseen, silent, answering, silent_behind}
use Rattle.teco_verifier.specs.facts.Shifts.{facts_answered}
use Rattle.teco_verifier.specs.facts.Values.{value_in, any_number}

-- the code of a character, -1 where there is none
abbrev pub character : Interval
character = record { lo = negsuc 0; hi = pos 255 }

-- the length of a text
abbrev pub text_length : Interval
text_length = record { lo = pos 0; hi = pos LIMIT }

-- what is given where nothing is taken: the number of a saved register is a saved value
abbrev pub query : Query → ℕ → Facts → Value
query (Number r) zero facts = record (value_in (number_of r facts)) { saved = is_saved r facts }
query (Number r) (suc colons) facts = value_in text_length
query q colons facts = value_in any_number

-- \ goes on past the number that it reads
abbrev pub past_number : Distances → Shift
past_number distances = moving (record distances { fore = 0 }) (Some (pos 0))

abbrev pub facts_at_query : Query → Facts → Result Facts RefusalReason
facts_at_query Conversion facts = shifted (past_number facts.position.distances) facts
facts_at_query q facts = Ok facts

-- what is done with the value that stands: n\ inserts 1 to 11 characters
abbrev pub query_with : Query → Facts → Result Foreseen RefusalReason
query_with (Number r) facts = Ok (answering character facts)
query_with Mode facts = Ok (silent facts)
query_with Conversion facts = silent_behind (insertion_of 1 (number 11) facts.position.distances) facts

abbrev pub value_for : Query → ℕ → KnownLevel → Option Value
value_for q colons level = if takes q colons then standing_value level else None

abbrev pub facts_after_query : Query → ℕ → Option Value → Facts → Result Facts RefusalReason
facts_after_query q colons None facts = do
  known ← facts_at_query q facts
  arguments ← with_level known.arguments
      (level_with known.position.distances (query q colons facts) known.arguments.level)
  Ok (with_arguments arguments known)
facts_after_query q colons (Some s) facts = do
  known ← query_with q (with_arguments (levels_after_taking facts.arguments) facts)
  Ok (facts_answered known)
