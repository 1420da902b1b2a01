-- What is known where a search's answer tells its outcomes apart.
use Rattle.std.specs.Prelude.{Some, Result, Ok}
use Rattle.teco_verifier.specs.declared.refusal.RefusalReason.{RefusalReason}
use Rattle.teco_verifier.specs.facts.Arguments.{levels_after_answer}
use Rattle.teco_verifier.specs.facts.Attempt.{◌>>=◌}
use Rattle.teco_verifier.specs.facts.Facts.{Position, Facts}
use Rattle.teco_verifier.specs.facts.Joins.{joined_position}
use Rattle.teco_verifier.specs.facts.Motions.{success}
use Rattle.teco_verifier.specs.facts.Values.{value_in}

-- from the facts where it found, and the position where it failed
abbrev pub facts_of_answer : Facts → Position → Result Facts RefusalReason
facts_of_answer found failed = do
  position ← joined_position found.position failed
  Ok (record found {
    arguments = levels_after_answer (Some (value_in success)) found.arguments;
    answer = Some (record { found = found.position; failed = failed });
    position = position;
  })
