-- What is asked before something is done, apart from the facts that it changes.
use Rattle.std.specs.Prelude.{Bool, Option, Result}
use Rattle.teco_verifier.specs.declared.refusal.RefusalReason.{RefusalReason}
use Rattle.teco_verifier.specs.declared.values.Value.{Value}
use Rattle.teco_verifier.specs.facts.Arguments.{KnownTaken, arguments_of}
use Rattle.teco_verifier.specs.facts.Attempt.{◌>>=◌}
use Rattle.teco_verifier.specs.facts.Facts.{Facts}
use Rattle.teco_verifier.specs.facts.Flows.{without_value}
use Rattle.teco_verifier.specs.facts.Storages.{not_of_library}
use Rattle.teco_verifier.specs.facts.Typings.{part_named}

-- nothing is pending that O would take
abbrev pub needs_no_value : Facts → Result (Unit {0}) RefusalReason
needs_no_value facts = do
  taken ← arguments_of facts.arguments.level
  without_value taken.value

-- a part of the buffer is copied to a register, or its own text stored
abbrev pub may_copy : Bool → KnownTaken → Facts → Result (Unit {0}) RefusalReason
may_copy library taken facts = do
  named ← part_named taken.first taken.value facts.position.distances
  not_of_library library

abbrev pub may_store : Bool → Option Value → Result (Unit {0}) RefusalReason
may_store library value = do
  alone ← without_value value
  not_of_library library
