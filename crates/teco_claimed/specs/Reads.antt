-- What reading a certificate of the linear rules gives.
use Rattle.std.specs.Prelude.{◌≡◌, ◌<◌, ◌^◌, ℕ, List, ⊤, IfSome, Option, Result, Ok, Err}
use Rattle.teco_base.specs.declared.TheConstants.{REGISTERS}
use Rattle.teco_certificate.specs.declared.fault.CertificateFault.{CertificateFault}
use Rattle.teco_certificate.specs.declared.fault.CertificateFault.TheVariants.{NotACertificate, Memory}
use Rattle.teco_claimed.specs.Text.{linear_text}
use Rattle.teco_claimed.specs.declared.certificate.LinearCertificate.{LinearCertificate}
use Rattle.teco_claims.specs.Spelled.{IsSpelled}
use Rattle.teco_claims.specs.Text.{text_of}
use Rattle.teco_model.specs.Macros.{ArgumentRange, IsArgumentRange, Needs}

-- sums of 32 bits
abbrev pub IsChecksum : ℕ → Type 0
IsChecksum sum = sum < 2 ^ 32

-- Each part is one that has a text.
pub record IsWellFormed (certificate : LinearCertificate) : Type 0 where
  pub entry : certificate.entry < REGISTERS
  pub argument : IfSome certificate.argument IsArgumentRange
  pub checksum : IfSome certificate.checksum IsChecksum
  pub claims : IsSpelled certificate.claims

-- a text is that of this certificate
pub record IsTextOf (certificate : LinearCertificate) (text : List ℕ) : Type 0 where
  pub well_formed : IsWellFormed certificate
  pub spelled : text ≡ linear_text certificate

-- and of no other
pub record IsReadAs (certificate : LinearCertificate) (text : List ℕ) : Type 0 where
  pub is : IsTextOf certificate text
  pub only : (other : LinearCertificate) → IsTextOf other text → certificate ≡ other

abbrev pub IsTextOfNone : List ℕ → Type 0
IsTextOfNone text = (certificate : LinearCertificate) → IsTextOf certificate text → ⊥

-- the certificate whose text it is, or none exactly where it is the text of none
abbrev pub Reads : List ℕ → Result LinearCertificate CertificateFault → Type 0
Reads text (Ok certificate) = IsReadAs certificate text
Reads text (Err NotACertificate) = IsTextOfNone text
Reads text (Err Memory) = ⊤

-- what stands before the claims of a certificate, and their text
pub record IsFrontOf
    (certificate : LinearCertificate) (entry : ℕ) (argument : Option ArgumentRange) (needs : Needs)
    (checksum : Option ℕ) (lines : List ℕ) :
    Type 0 where
  pub entry_is : entry ≡ certificate.entry
  pub argument_is : argument ≡ certificate.argument
  pub needs_are : needs ≡ certificate.needs
  pub checksum_is : checksum ≡ certificate.checksum
  pub spelled : lines ≡ text_of certificate.claims

-- this certificate, or memory is refused
abbrev pub IsUnlessMemory : LinearCertificate → Result LinearCertificate CertificateFault → Type 0
IsUnlessMemory certificate (Ok read) = read ≡ certificate
IsUnlessMemory certificate (Err NotACertificate) = ⊥
IsUnlessMemory certificate (Err Memory) = ⊤
