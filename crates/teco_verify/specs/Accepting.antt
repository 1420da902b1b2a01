-- What is found where a library is accepted with nothing chosen.
use Rattle.std.specs.Prelude.{◌≡◌, ℕ, ◌<◌, ◌≤◌, List, [], length, Result, Ok, Err, Some, None, Vec}
use Rattle.std.specs.declared.alloc.Global.{Global}
use Rattle.teco_base.specs.declared.TheConstants.{LIMIT, REGISTERS}
use Rattle.teco_certificate.specs.Text.{certificate_text}
use Rattle.teco_model.specs.Macros.{Library, macro}
use Rattle.teco_library.specs.Library.{LibraryFile, argument_of}
use Rattle.teco_poly.specs.Polynomial.{Polynomial}
use Rattle.teco_law_tables.specs.straight_text.Accepted.{IsAccepted}
use Rattle.teco_verifier.specs.table.Choices.{Chosen}
use Rattle.teco_verify.specs.declared.refusal.Refusal.{Refusal}
use Rattle.teco_verifier.specs.certificate.Fields.{Finding}
use Rattle.teco_verify.specs.Straight.{plain_fields, IsFound}

-- texts have no more than LIMIT characters
abbrev pub TextsAreWithin : Library → Type 0
TextsAreWithin library = (r : ℕ) (text : List ℕ) → macro library r ≡ Some text → length text ≤ LIMIT

-- no choices are made, and none are refused
abbrev pub ChoosesNothing : {E : Type 0} → Result (Vec Chosen Global) E → Type 0
ChoosesNothing (Ok choices) = choices.items ≡ []
ChoosesNothing (Err why) = ⊥

abbrev pub AcceptedIsFound : LibraryFile → ℕ → Result Finding Refusal → Type 0
AcceptedIsFound library entry result =
    (steps most : Polynomial) → argument_of library entry ≡ None
    → IsAccepted library.texts entry steps most
    → IsFound (plain_fields entry steps most) result

abbrev pub AcceptedIsChecked : LibraryFile → List ℕ → Result Finding Refusal → Type 0
AcceptedIsChecked library bytes result =
    (entry : ℕ) (steps most : Polynomial)
    → entry < REGISTERS → argument_of library entry ≡ None
    → IsAccepted library.texts entry steps most
    → bytes ≡ certificate_text (plain_fields entry steps most)
    → IsFound (plain_fields entry steps most) result
