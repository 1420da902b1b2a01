-- What is written of a refusal, and what is refused as a certificate or as a library.
use Rattle.std.specs.Prelude.{ℕ, ◌≡◌, ◌≢◌, ◌⊎◌, ⊤, List, Option, None, Result, Err, IsErr}
use Rattle.std.specs.Io.KnownBytes.{Keeps}
use Rattle.teco_acceptance.specs.Lines.{refused_line}
use Rattle.teco_certificate.specs.Text.{certificate_text}
use Rattle.teco_claimed.specs.Reads.{IsTextOf}
use Rattle.teco_claimed.specs.Refused.{IsRefused}
use Rattle.teco_claimed.specs.declared.certificate.LinearCertificate.{LinearCertificate}
use Rattle.teco_claimed.specs.declared.refusal.LinearRefusal.{LinearRefusal}
use Rattle.teco_claimed.specs.declared.refusal.LinearRefusal.TheVariants as linear
use Rattle.teco_console.specs.Output.{Writes}
use Rattle.teco_console.specs.declared.method.Edition.TheVariants.{First, Second}
use Rattle.teco_console.specs.declared.method.Method.{Method}
use Rattle.teco_console.specs.declared.method.Method.TheVariants.{Only, Best}
use Rattle.teco_console.specs.declared.outcome.Outcome.{Outcome}
use Rattle.teco_law_tables.specs.straight_text.Straight.{IsStraight}
use Rattle.teco_library.specs.Library.{LibraryFile, argument_of}
use Rattle.teco_library.specs.Reads.{Reads}
use Rattle.teco_library.specs.declared.fault.LibraryFault.TheVariants.{NotALibrary}
use Rattle.teco_model.specs.Element.{Element}
use Rattle.teco_verifier.specs.certificate.Fields.{Fields}
use Rattle.teco_verifier.specs.declared.refusal.RefusalReason.{RefusalReason}
use Rattle.teco_verifier.specs.declared.refusal.RefusalReason.TheVariants as why
use Rattle.teco_verify.specs.Again.{AreMadeAgain}
use Rattle.teco_verify.specs.Refusing.{IsJudged, RefusedIsExpansions, refusal_of_certificate}
use Rattle.teco_verify.specs.Straight.{StraightIsVerified, straight_fields}
use Rattle.teco_verify.specs.declared.refusal.Refusal.{Refusal}
use Rattle.teco_verify.specs.declared.refusal.Refusal.TheVariants.{No, Memory}

-- The line of a refusal was written. For want of memory, which is a fault, nothing was.
abbrev pub Refuses : {E : Type 0} → Option (List ℕ) → Option (List ℕ) → Refusal → Result Outcome E → Type 0
Refuses old new (No reason register place) result = Writes old new (refused_line (No reason register place)) result
Refuses old new Memory result = IsErr result × Keeps old new

-- P is so of the elements of an entry without a declared argument, if its text is straight
abbrev pub StraightIs : LibraryFile → ℕ → (List Element → Type 0) → Type 0
StraightIs library entry P =
    (text : List ℕ) (elements : List Element)
    → argument_of library entry ≡ None → IsStraight library.texts entry text elements → P elements

-- bytes that are refused as a certificate: they are that of nothing that is made again from it, nor of straight text
pub record IsDenied (bytes : List ℕ) (library : LibraryFile) (entry : ℕ) : Type 0 where
  pub straight : StraightIs library entry (λ elements. bytes ≢ certificate_text (straight_fields entry elements))
  pub none : (fields : Fields) → AreMadeAgain library fields → fields.entry ≡ entry → bytes ≢ certificate_text fields

-- so they are, where memory is not what is wanted
abbrev pub IsDeniedBy : List ℕ → LibraryFile → ℕ → Refusal → Type 0
IsDeniedBy bytes library entry (No reason register place) = IsDenied bytes library entry
IsDeniedBy bytes library entry Memory = ⊤

-- the text of a certificate by claims of another entry
pub record IsOfOther (bytes : List ℕ) (entry : ℕ) : Type 0 where
  pub certificate : LinearCertificate
  pub is : IsTextOf certificate bytes
  pub other : certificate.entry ≢ entry

-- why bytes are refused as a certificate by claims of an entry
abbrev pub IsUnclaimedFor : List ℕ → LibraryFile → ℕ → LinearRefusal → Type 0
IsUnclaimedFor bytes library entry refused = IsRefused library bytes refused ⊎ IsOfOther bytes entry

-- bytes that are refused as such: they are the text of no certificate, or of one that is refused, or of another entry
pub record IsUnclaimed (bytes : List ℕ) (library : LibraryFile) (entry : ℕ) : Type 0 where
  pub refused : LinearRefusal
  pub why : IsUnclaimedFor bytes library entry refused
  pub some : refused ≢ linear.Memory

-- how a refusal by claims is told: a certificate is refused as such
abbrev pub told_of : LinearRefusal → Refusal
told_of linear.Memory = Memory
told_of refused = refusal_of_certificate

-- what the verifier promises of its refusal of an entry by a table
pub record IsRefusal (library : LibraryFile) (entry : ℕ) (refusal : Refusal) : Type 0 where
  pub straight : StraightIsVerified library entry (Err refusal)
  pub unexpanded : RefusedIsExpansions library entry (Err refusal)
  pub judged : IsJudged library entry (Err refusal)

-- by a table the verifier refuses a macro, and not for want of memory
pub record IsRefusedByTable (library : LibraryFile) (entry : ℕ) : Type 0 where
  pub why : RefusalReason
  pub register : Option ℕ
  pub place : ℕ
  pub refused : IsRefusal library entry (No why register place)

-- A refusal by a method: by the first edition it is one of a table, and where either edition may accept, a table is
-- refused, too.
abbrev pub IsRefusedBy : Method → LibraryFile → ℕ → Refusal → Type 0
IsRefusedBy (Only First) library entry refusal = IsRefusal library entry refusal
IsRefusedBy (Only Second) library entry refusal = ⊤
IsRefusedBy Best library entry refusal = refusal ≢ Memory → IsRefusedByTable library entry

-- why a text is read as no library
abbrev pub ReadsNone : List ℕ → Refusal → Type 0
ReadsNone source (No reason register place) =
    (No reason register place ≡ No why.Library None place) × Reads source (Err (NotALibrary place))
ReadsNone source Memory = ⊤
