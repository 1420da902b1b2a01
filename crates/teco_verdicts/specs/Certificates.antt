-- What is printed and accepted as a certificate by a table.
use Rattle.std.specs.Prelude.{ℕ, ◌≡◌, List}
use Rattle.teco_verifier.specs.certificate.Fields.{Fields}
use Rattle.teco_certificate.specs.Text.{certificate_text}
use Rattle.teco_library.specs.Library.{LibraryFile}
use Rattle.teco_verify.specs.Certified.{IsCertified, TakesDeclared}

-- The text of what is certified of an entry of a library, with the argument that the library declares for it.
pub record IsCertificate (library : LibraryFile) (entry : ℕ) (text : List ℕ) : Type 0 where
  pub fields : Fields
  pub certified : IsCertified library.texts fields
  pub declared : TakesDeclared library fields
  pub of_entry : fields.entry ≡ entry
  pub spelled : certificate_text fields ≡ text
