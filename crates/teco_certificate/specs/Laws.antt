-- A certificate has one spelling.
use Rattle.std.specs.Prelude.{◌≡◌, ℕ, List}
use Rattle.teco_verifier.specs.certificate.Fields.{Fields}
use Rattle.teco_certificate.specs.Reads.{IsTextOf}
use Rattle.teco_certificate.specs.Text.{certificate_text}
use Rattle.teco_certificate.specs.WellFormed.{HasText}

-- a text is that of one certificate
abbrev pub OneSpelling : Type 0
OneSpelling = (text : List ℕ) (p q : Fields) → IsTextOf p text → IsTextOf q text → p ≡ q

-- and it tells one register
abbrev pub OneEntry : Type 0
OneEntry =
    (f g : Fields) → HasText f → HasText g → certificate_text f ≡ certificate_text g → f.entry ≡ g.entry
