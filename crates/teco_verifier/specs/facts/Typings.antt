-- T, V, ^A, ^T and = change nothing.
use Rattle.std.specs.Prelude.{Option, Some, Result, Ok}
use Rattle.teco_model.specs.declared.kind.Typing.{Typing}
use Rattle.teco_model.specs.declared.kind.Typing.TheVariants.{Part, View, Message, Byte, Number}
use Rattle.teco_verifier.specs.declared.values.Value.{Value}
use Rattle.teco_verifier.specs.declared.values.Distances.{Distances}
use Rattle.teco_verifier.specs.declared.refusal.RefusalReason.{RefusalReason}
use Rattle.teco_verifier.specs.facts.Arguments.{KnownTaken, needed_value}
use Rattle.teco_verifier.specs.facts.Attempt.{◌>>=◌}
use Rattle.teco_verifier.specs.facts.Facts.{Facts}
use Rattle.teco_verifier.specs.facts.Shifts.{shift_to, Foreseen, silent}

-- m,n names a part of the buffer where both places are known to lie in it; n alone always does
abbrev pub part_named : Option Value → Option Value → Distances → Result (Unit {0}) RefusalReason
part_named (Some m) (Some n) distances = do
  from ← shift_to m distances
  to ← shift_to n distances
  Ok tt
part_named first value distances = Ok tt

abbrev pub typing : Typing → KnownTaken → Facts → Result Foreseen RefusalReason
typing Part taken facts = do
  named ← part_named taken.first taken.value facts.position.distances
  Ok (silent facts)
typing View taken facts = Ok (silent facts)
typing Message taken facts = Ok (silent facts)
typing Byte taken facts = do
  n ← needed_value taken.value
  Ok (silent facts)
typing (Number radix) taken facts = do
  n ← needed_value taken.value
  Ok (silent facts)
