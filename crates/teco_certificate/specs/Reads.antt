-- What reading a certificate gives.
use Rattle.std.specs.Prelude.{◌≡◌, ℕ, List, Result, Ok, Err}
use Rattle.teco_certificate.specs.declared.fault.CertificateFault.{CertificateFault}
use Rattle.teco_certificate.specs.declared.fault.CertificateFault.TheVariants.{NotACertificate, Memory}
use Rattle.teco_verifier.specs.certificate.Fields.{Fields}
use Rattle.teco_certificate.specs.Text.{certificate_text}
use Rattle.teco_certificate.specs.WellFormed.{IsWellFormed}

-- a text is that of these fields
pub record IsTextOf (fields : Fields) (text : List ℕ) : Type 0 where
  pub well_formed : IsWellFormed fields
  pub spelled : text ≡ certificate_text fields

-- the fields whose text it is, or none exactly where it is the text of none
abbrev pub Reads : List ℕ → Result Fields CertificateFault → Type 0
Reads text (Ok fields) = IsTextOf fields text
Reads text (Err NotACertificate) = (fields : Fields) → IsTextOf fields text → ⊥
Reads text (Err Memory) = Unit {0}
