-- What `verify` and `check` answer of an entry, and what is written of an answer.
use Rattle.std.specs.Prelude.{ℕ, ◌≡◌, ◌≢◌, ◌⊎◌, ⊤, List, codes, Option, None, Result, Ok, Err, IsErr}
use Rattle.std.specs.Io.KnownBytes.{Appends, Keeps}
use Rattle.teco_acceptance.specs.Refused.{IsDenied, IsRefusal, StraightIs}
use Rattle.teco_certificate.specs.Text.{certificate_text}
use Rattle.teco_law_tables.specs.straight_text.Straight.{IsStraight}
use Rattle.teco_library.specs.Library.{LibraryFile, argument_of}
use Rattle.teco_library.specs.Reads.{Reads}
use Rattle.teco_library.specs.declared.fault.LibraryFault.TheVariants.{NotALibrary}
use Rattle.teco_model.specs.Element.{Element}
use Rattle.teco_verifier.specs.certificate.Fields.{Fields, Finding}
use Rattle.teco_verifier.specs.declared.refusal.RefusalReason.TheVariants as why
use Rattle.teco_verify.specs.Again.{AreMadeAgain}
use Rattle.teco_verify.specs.Refusing.{refusal_of_certificate}
use Rattle.teco_verify.specs.Straight.{straight_fields}
use Rattle.teco_verify.specs.declared.refusal.Refusal.{Refusal}
use Rattle.teco_verify.specs.declared.refusal.Refusal.TheVariants.{No, Memory}
use Rattle.teco_verdicts.specs.Certificates.{IsCertificate}
use Rattle.teco_acceptance.specs.Lines.{refused_line}
use Rattle.teco_console.specs.Output.{Writes, WritesFront}
use Rattle.teco_console.specs.Sources.{IsReadFor}
use Rattle.teco_console.specs.declared.outcome.Outcome.{Outcome}
use Rattle.teco_console.specs.declared.outcome.Outcome.TheVariants.{Done, Coded, Refused}
use Rattle.teco_console.specs.declared.request.Request.{Request}

-- the texts that may be written, by the outcome
abbrev pub Answer : Type 1
Answer = Outcome → List ℕ → Type 0

-- an answer was written, whole
pub record WritesAnswer (IsAnswer : Answer) (old new : Option (List ℕ)) (outcome : Outcome) : Type 0 where
  pub text : List ℕ
  pub answer : IsAnswer outcome text
  pub whole : Appends old new text

-- a front of an answer was written
pub record BreaksOff (IsAnswer : Answer) (old new : Option (List ℕ)) : Type 0 where
  pub outcome : Outcome
  pub text : List ℕ
  pub answer : IsAnswer outcome text
  pub front : WritesFront old new text

-- an answer was written, or with a fault a front of one, or nothing
abbrev pub Answers : {E : Type 0} → Answer → Option (List ℕ) → Option (List ℕ) → Result Outcome E → Type 0
Answers IsAnswer old new (Ok outcome) = WritesAnswer IsAnswer old new outcome
Answers IsAnswer old new (Err fault) = Keeps old new ⊎ BreaksOff IsAnswer old new

-- what is found of straight text is the definition's
abbrev pub IsStraightVerdict : LibraryFile → ℕ → Result Finding Refusal → Type 0
IsStraightVerdict library entry (Ok found) = StraightIs library entry (λ elements.
    found.fields ≡ straight_fields entry elements)
IsStraightVerdict library entry (Err refusal) = ⊤

-- the line of a refusal by a table
pub record IsRefusalLine (library : LibraryFile) (entry : ℕ) (text : List ℕ) : Type 0 where
  pub refusal : Refusal
  pub refused : IsRefusal library entry refusal
  pub line : text ≡ refused_line refusal

-- a certificate that was found, which is made again from its text, and of straight text is that of the definition
pub record IsFoundCertificate (library : LibraryFile) (entry : ℕ) (text : List ℕ) : Type 0 where
  pub certificate : IsCertificate library entry text
  pub straight : StraightIs library entry (λ elements. text ≡ certificate_text (straight_fields entry elements))
  pub made : AreMadeAgain library certificate.fields

-- what `verify` answers of an entry of a library by a table: a certificate, or the line of the refusal
abbrev pub VerdictByTable : LibraryFile → ℕ → Answer
VerdictByTable library entry Done text = IsFoundCertificate library entry text
VerdictByTable library entry Coded text = ⊥
VerdictByTable library entry Refused text = IsRefusalLine library entry text

-- what `check` answers of bytes by a table: that they are a certificate, or that they are refused
abbrev pub ChecksByTable : List ℕ → LibraryFile → ℕ → Answer
ChecksByTable bytes library entry Done text = IsCertificate library entry bytes × (text ≡ codes "accepted\n")
ChecksByTable bytes library entry Coded text = ⊥
ChecksByTable bytes library entry Refused text =
    IsDenied bytes library entry × (text ≡ refused_line refusal_of_certificate)

-- the line for a text that is no library
pub record IsNoLibraryLine (source text : List ℕ) : Type 0 where
  pub place : ℕ
  pub none : Reads source (Err (NotALibrary place))
  pub line : text ≡ refused_line (No why.Library None place)

-- an answer on the library that a text says
pub record AnswersIn (In : LibraryFile → Answer) (source : List ℕ) (outcome : Outcome) (text : List ℕ)
    : Type 0 where
  pub library : LibraryFile
  pub read : Reads source (Ok library)
  pub answer : In library outcome text

-- an answer on a text that says a library, or none
abbrev pub OfText : (LibraryFile → Answer) → List ℕ → Answer
OfText In source Done text = AnswersIn In source Done text
OfText In source Coded text = AnswersIn In source Coded text
OfText In source Refused text = AnswersIn In source Refused text ⊎ IsNoLibraryLine source text

-- the answer on the source that was read for a request
pub record AnswersOn {E : Type 0} (holds : List ℕ → Option (List ℕ)) (request : Request)
    (Of : List ℕ → Answer) (old new : Option (List ℕ)) (result : Result Outcome E) : Type 0 where
  pub source : List ℕ
  pub read : IsReadFor holds request source
  pub answers : Answers (Of source) old new result

-- that, or with a fault none was read and nothing written
abbrev pub AnswersOf : {E : Type 0} → (List ℕ → Option (List ℕ)) → Request → (List ℕ → Answer)
    → Option (List ℕ) → Option (List ℕ) → Result Outcome E → Type 0
AnswersOf holds request Of old new result =
    (IsErr result × Keeps old new) ⊎ AnswersOn holds request Of old new result

-- that of a library, or the line for none
abbrev pub AnswersFor : {E : Type 0} → (List ℕ → Option (List ℕ)) → Request → (LibraryFile → Answer)
    → Option (List ℕ) → Option (List ℕ) → Result Outcome E → Type 0
AnswersFor holds request In old new result = AnswersOf holds request (OfText In) old new result
