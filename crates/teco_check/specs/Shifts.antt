-- The shifts that elements make, apart from the facts that they change.
use Rattle.std.specs.Prelude.{pos, ◌+◌, ℕ, List, [], ◌∷◌, length, Option, Some, None, Result, Ok, Err}
use Rattle.teco_model.specs.declared.kind.Insertion.{Insertion}
use Rattle.teco_model.specs.declared.kind.Insertion.TheVariants.{Text, Tab}
use Rattle.teco_model.specs.declared.kind.Unit.{Unit as Counted}
use Rattle.teco_model.specs.declared.kind.Unit.TheVariants.{Characters, Lines}
use Rattle.teco_verifier.specs.declared.refusal.RefusalReason.{RefusalReason}
use Rattle.teco_verifier.specs.declared.refusal.RefusalReason.TheVariants as refusal
use Rattle.teco_verifier.specs.declared.values.Distances.{Distances}
use Rattle.teco_verifier.specs.declared.values.Value.{Value}
use Rattle.teco_verifier.specs.facts.Deletions.{character_deletion, range_deletion}
use Rattle.teco_verifier.specs.facts.Motions.{count_of, shift_by_lines}
use Rattle.teco_verifier.specs.facts.Shifts.{Shift}

abbrev pub deleting : Counted → Option Value → Option Value → Distances → Result Shift RefusalReason
deleting unit (Some m) (Some n) distances = range_deletion m n distances
deleting Characters first n distances = character_deletion distances (count_of n distances)
deleting Lines first n distances = Ok (shift_by_lines (Some (pos 0)) distances (count_of n distances))

-- how much is inserted
abbrev pub inserted : Insertion → List ℕ → Option Value → Result ℕ RefusalReason
inserted Text text None = Ok (length text)
inserted Text [] (Some n) = Ok 1
inserted Text (c ∷ text) (Some n) = Err refusal.Argument
inserted Tab text None = Ok (length text + 1)
inserted Tab text (Some n) = Err refusal.Argument
