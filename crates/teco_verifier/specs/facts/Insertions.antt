-- I and TAB.
use Rattle.std.specs.Prelude.{ℕ, pos, ◌+◌, List, [], ◌∷◌, length, Option, Some, None, Result, Err}
use Rattle.teco_base.specs.declared.bytes.TheConstants.{TAB}
use Rattle.teco_model.specs.declared.kind.Insertion.{Insertion}
use Rattle.teco_model.specs.declared.kind.Insertion.TheVariants.{Text, Tab}
use Rattle.teco_poly.specs.Polynomial.{Polynomial, number}
use Rattle.teco_verifier.specs.declared.values.Value.{Value}
use Rattle.teco_verifier.specs.declared.values.Distances.{Distances}
use Rattle.teco_verifier.specs.declared.refusal.RefusalReason.{RefusalReason}
use Rattle.teco_verifier.specs.declared.refusal.RefusalReason.TheVariants as refusal
use Rattle.teco_verifier.specs.facts.Arguments.{KnownTaken}
use Rattle.teco_verifier.specs.facts.Facts.{Facts}
use Rattle.teco_verifier.specs.facts.Shifts.{Shift, moving, Foreseen, silent_behind}

-- an insertion before the pointer of m characters at least, and at most as many as a polynomial says
abbrev pub insertion_of : ℕ → Polynomial → Distances → Shift
insertion_of m growth distances =
    record (moving (record distances { back = distances.back + m }) (Some (pos 0))) { growth = growth }

-- of exactly n
abbrev pub insertion_of_length : ℕ → Facts → Result Foreseen RefusalReason
insertion_of_length n facts = silent_behind (insertion_of n (number n) facts.position.distances) facts

-- nI with no text inserts a byte; with a text, and before TAB, an argument is not allowed
abbrev pub insertion_with : Insertion → List ℕ → Option Value → Facts → Result Foreseen RefusalReason
insertion_with Text text None facts = insertion_of_length (length text) facts
insertion_with Text [] (Some n) facts = insertion_of_length 1 facts
insertion_with Text (c ∷ text) (Some n) facts = Err refusal.Argument
insertion_with Tab text None facts = insertion_of_length (length (TAB ∷ text)) facts
insertion_with Tab text (Some n) facts = Err refusal.Argument

abbrev pub insertion : Insertion → List ℕ → KnownTaken → Facts → Result Foreseen RefusalReason
insertion i text taken facts = insertion_with i text taken.value facts
