-- The argument that the entry of a library may be declared to take.
use Rattle.std.specs.Prelude.{ℕ, pos, Option, Some, None, option_map}
use Rattle.teco_model.specs.Arguments.{Arguments, levels_after_answer, no_arguments as nothing}
use Rattle.teco_model.specs.Macros.{ArgumentRange}
use Rattle.teco_verifier.specs.facts.Arguments.{KnownArguments, no_arguments, empty_level}
use Rattle.teco_verifier.specs.facts.Facts.{Facts, entry_facts, with_arguments}
use Rattle.teco_verifier.specs.facts.Values.{value_in}

-- what is pending where it is given
abbrev pub arguments_given : Option ℕ → Arguments
arguments_given given = levels_after_answer (option_map pos given) nothing

-- what is known of it
abbrev pub known_in : ArgumentRange → KnownArguments
known_in range = record no_arguments {
  level = record empty_level { value = Some (value_in (record { lo = pos range.low; hi = pos range.high })) };
}

-- what is known before the first element, where it is given
abbrev pub facts_given : Option ArgumentRange → Facts
facts_given None = entry_facts
facts_given (Some range) = with_arguments (known_in range) entry_facts
