-- What is known where two ways meet, but of the registers, and then of those.
use Rattle.std.specs.Borrow.{Bor}
use Rattle.std.specs.Prelude.{◌≡◌, ◌≤◌, ℕ, List, length, take, ◌++◌, Result, Ok, Err}
use Rattle.teco_facts.specs.declared.fault.FactFault.{FactFault}
use Rattle.teco_facts.specs.declared.fault.FactFault.TheVariants as fault
use Rattle.teco_verifier.specs.declared.refusal.RefusalReason.{RefusalReason}
use Rattle.teco_verifier.specs.facts.Attempt.{◌>>=◌}
use Rattle.teco_verifier.specs.facts.Facts.{Facts, Pushed, join_of, without_arguments}
use Rattle.teco_verifier.specs.facts.Joins.{hulls, joined_lengths, joined_position, joined_pushes, none_pending}

-- of these what is known on the first way
abbrev pub joined_but_registers : Facts → Facts → Result Facts RefusalReason
joined_but_registers facts others = do
  one ← none_pending facts.arguments
  two ← none_pending others.arguments
  pushes ← joined_pushes facts.pushes others.pushes
  position ← joined_position facts.position others.position
  held ← join_of facts.held others.held
  Ok (record (without_arguments facts) { position = position; held = held; pushes = pushes })

-- of the registers on both
abbrev pub with_registers_joined : Facts → Facts → Result Facts RefusalReason
with_registers_joined facts others = do
  texts ← joined_lengths facts.texts others.texts
  Ok (record facts { numbers = hulls facts.numbers others.numbers; texts = texts })

-- The pairs of two ways are joined, or refused, or memory was refused. Behind the last that is changed they are those
-- of the first way that are shared.
pub record AreShared (pairs shared : List Pushed) (changed : ℕ) : Type 0 where
  pub within : changed ≤ length pairs
  pub same : pairs ≡ take changed pairs ++ shared

abbrev pub JoinsPairs : List Pushed → List Pushed → List Pushed → Result (ℕ × Bor (List Pushed)) FactFault → Type 0
JoinsPairs first second pairs (Ok found) =
    (joined_pushes first second ≡ Ok pairs) × AreShared pairs found.1.now found.0
JoinsPairs first second pairs (Err (fault.Refused why)) = joined_pushes first second ≡ Err why
JoinsPairs first second pairs (Err fault.Memory) = Unit {0}
