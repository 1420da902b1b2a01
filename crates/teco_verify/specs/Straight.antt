-- What is found of straight text: the rules refuse none.
use Rattle.std.specs.Prelude.{◌≡◌, ℕ, ◌+◌, List, [], length, None, Result, Ok, Err, ⊤}
use Rattle.teco_verifier.specs.certificate.Fields.{Fields, Finding}
use Rattle.teco_certificate.specs.Text.{certificate_text}
use Rattle.teco_library.specs.Library.{LibraryFile, argument_of}
use Rattle.teco_model.specs.Element.{Element}
use Rattle.teco_poly.specs.Polynomial.{Polynomial, number}
use Rattle.teco_verifier.specs.facts.Printed.{no_needs}
use Rattle.teco_law_tables.specs.straight_text.Facts.{and_more}
use Rattle.teco_law_tables.specs.straight_text.Straight.{inserted, IsStraight}
use Rattle.teco_verify.specs.declared.refusal.Refusal.{Refusal}
use Rattle.teco_verify.specs.declared.refusal.Refusal.TheVariants as refusal

-- no file must be open, and there is no iteration
abbrev pub plain_fields : ℕ → Polynomial → Polynomial → Fields
plain_fields entry steps most =
    record {
      entry = entry;
      argument = None;
      needs = no_needs;
      commands = steps;
      size = most;
      loops = [];
    }

-- two commands more than it has elements, and N with what it inserts
abbrev pub straight_fields : ℕ → List Element → Fields
straight_fields entry elements =
    plain_fields entry (number (2 + length elements)) (and_more (inserted elements))

-- That is found, or memory was refused.
abbrev pub IsFound : Fields → Result Finding Refusal → Type 0
IsFound fields (Ok found) = found.fields ≡ fields
IsFound fields (Err refusal.Memory) = ⊤
IsFound fields (Err refused) = ⊥

-- A straight text is verified, where no argument is declared.
abbrev pub StraightIsVerified : LibraryFile → ℕ → Result Finding Refusal → Type 0
StraightIsVerified library entry result =
    (text : List ℕ) (elements : List Element)
    → argument_of library entry ≡ None → IsStraight library.texts entry text elements
    → IsFound (straight_fields entry elements) result

-- The certificate of a straight text is accepted.
abbrev pub StraightIsChecked : LibraryFile → List ℕ → Result Finding Refusal → Type 0
StraightIsChecked library bytes result =
    (entry : ℕ) (text : List ℕ) (elements : List Element)
    → argument_of library entry ≡ None → IsStraight library.texts entry text elements
    → bytes ≡ certificate_text (straight_fields entry elements)
    → IsFound (straight_fields entry elements) result
