-- What is printed of a macro is accepted where it is checked.
use Rattle.std.specs.Prelude.{◌≡◌, ℕ, List, [], Result, Ok, Option}
use Rattle.std.specs.List.{AllByRecursion}
use Rattle.teco_certificate.specs.Reads.{IsTextOf}
use Rattle.teco_certificate.specs.Text.{certificate_text}
use Rattle.teco_certificate.specs.WellFormed.{HasText}
use Rattle.teco_check.specs.Kept.{RowIsKept}
use Rattle.teco_library.specs.Library.{LibraryFile, argument_of}
use Rattle.teco_verifier.specs.certificate.Fields.{Fields, Finding}
use Rattle.teco_verifier.specs.expansion.Expansion.{expansion}
use Rattle.teco_verifier.specs.expansion.Node.{Node}
use Rattle.teco_model.specs.Macros.{ArgumentRange}
use Rattle.teco_verifier.specs.table.Choices.{Chosen}
use Rattle.teco_verifier.specs.table.Closed.{check}
use Rattle.teco_verifier.specs.table.Deriving.{derive}
use Rattle.teco_verifier.specs.table.Table.{Table}
use Rattle.teco_verify.specs.Certifying.{AreFieldsOf}
use Rattle.teco_verify.specs.Refusing.{IsPlain}
use Rattle.teco_verify.specs.Straight.{IsFound}
use Rattle.teco_verify.specs.declared.refusal.Refusal.{Refusal}

-- The table that is derived with these choices is closed, none of its facts are too large, and these fields are printed
-- of it.
pub record AreMadeBy (argument : Option ArgumentRange) (nodes : List Node) (chosen : List Chosen) (entry : ℕ)
    (fields : Fields) : Type 0 where
  pub table : Table
  pub derived : derive argument nodes chosen ≡ Ok table
  pub kept : AllByRecursion RowIsKept table
  pub closed : check argument nodes table ≡ Ok tt
  pub printed : AreFieldsOf argument nodes table entry fields

-- A text is read as choices that make them.
pub record AreMadeFrom (library : LibraryFile) (text : List ℕ) (fields : Fields) : Type 0 where
  pub read : Fields
  pub spelled : IsTextOf read text
  pub entry : read.entry ≡ fields.entry
  pub nodes : List Node
  pub expanded : expansion library.texts fields.entry ≡ Ok nodes
  pub made : AreMadeBy (argument_of library fields.entry) nodes read.loops fields.entry fields

-- their own text is
abbrev pub AreMadeAgain : LibraryFile → Fields → Type 0
AreMadeAgain library fields = AreMadeFrom library (certificate_text fields) fields

-- The certificate of fields that are made again from their text is accepted.
abbrev pub PrintedIsAccepted : LibraryFile → List ℕ → Result Finding Refusal → Type 0
PrintedIsAccepted library bytes result =
    (fields : Fields) → AreMadeAgain library fields → bytes ≡ certificate_text fields
    → IsFound fields result

-- Where nothing has to be chosen, they are made with no choices.
abbrev pub AreMadePlain : LibraryFile → ℕ → Fields → Type 0
AreMadePlain library entry fields =
    (nodes : List Node) → IsPlain library entry nodes
    → AreMadeBy (argument_of library entry) nodes [] entry fields

-- What was found is found again, if it has a text from which it is made.
abbrev pub IsFoundAgain : LibraryFile → Fields → Result Finding Refusal → Type 0
IsFoundAgain library fields result =
    (HasText fields → AreMadeAgain library fields) → IsFound fields result
