-- What `verify` and `check` answer by the linear rules.
use Rattle.std.specs.Prelude.{ℕ, ◌≡◌, List, codes}
use Rattle.teco_claimed.specs.Claimed.{IsChecked}
use Rattle.teco_claimed.specs.Text.{linear_text}
use Rattle.teco_claimed.specs.declared.certificate.LinearCertificate.{LinearCertificate}
use Rattle.teco_library.specs.Library.{LibraryFile}
use Rattle.teco_verdicts.specs.Answers.{Answer}
use Rattle.teco_acceptance.specs.Refused.{IsUnclaimed}
use Rattle.teco_acceptance.specs.Lines.{refused_line}
use Rattle.teco_console.specs.declared.outcome.Outcome.{Outcome}
use Rattle.teco_console.specs.declared.outcome.Outcome.TheVariants.{Done, Coded, Refused}
use Rattle.teco_verify.specs.Refusing.{refusal_of_certificate}
use Rattle.teco_verify.specs.declared.refusal.Refusal.{Refusal}

-- The text of a certificate of an entry of a library whose claims hang together, with the argument that is declared.
pub record IsLinear (library : LibraryFile) (entry : ℕ) (text : List ℕ) : Type 0 where
  pub certificate : LinearCertificate
  pub checked : IsChecked library certificate
  pub of_entry : certificate.entry ≡ entry
  pub spelled : linear_text certificate ≡ text

-- what `verify` answers of an entry: a certificate, or the line of a refusal
abbrev pub VerdictByClaims : LibraryFile → ℕ → Answer
VerdictByClaims library entry Done text = IsLinear library entry text
VerdictByClaims library entry Coded text = ⊥
VerdictByClaims library entry Refused text = (refusal : Refusal) × (text ≡ refused_line refusal)

-- what `check` answers of bytes: that they are such a certificate, or that they are refused
abbrev pub ChecksByClaims : List ℕ → LibraryFile → ℕ → Answer
ChecksByClaims bytes library entry Done text = IsLinear library entry bytes × (text ≡ codes "accepted\n")
ChecksByClaims bytes library entry Coded text = ⊥
ChecksByClaims bytes library entry Refused text =
    IsUnclaimed bytes library entry × (text ≡ refused_line refusal_of_certificate)
