-- Bytes that are refused as a certificate.
use Rattle.std.proofs.Common.{◌≡◌, ◌≢◌, ◌∙◌, ℕ, ap, List, Ok, Err}
use Rattle.teco_acceptance.specs.Refused.{IsDenied, IsDeniedBy}
use Rattle.teco_library.specs.Library.{LibraryFile}
use Rattle.teco_verifier.specs.certificate.Fields.{Fields, Finding}
use Rattle.teco_verify.specs.Again.{PrintedIsAccepted}
use Rattle.teco_verify.specs.Straight.{StraightIsChecked}
use Rattle.teco_verify.specs.declared.refusal.Refusal.{Refusal}
use Rattle.teco_verify.specs.declared.refusal.Refusal.TheVariants.{No, Memory}

-- bytes that are refused as a certificate, since no certificate is read of them
pub denied_by : (bytes : List ℕ) (library : LibraryFile) (entry : ℕ) (refusal : Refusal)
    → StraightIsChecked library bytes (Err refusal) → PrintedIsAccepted library bytes (Err refusal)
    → IsDeniedBy bytes library entry refusal
denied_by bytes library entry (No reason register place) straight again =
    record {
      straight = λ text elements none is same. straight entry text elements none is same;
      none = λ fields made of_entry same. again fields made same;
    }
denied_by bytes library entry Memory straight again = tt

-- or since it is one of another entry
pub denied_other : (bytes : List ℕ) (library : LibraryFile) (entry : ℕ) (found : Finding)
    → StraightIsChecked library bytes (Ok found) → PrintedIsAccepted library bytes (Ok found)
    → found.fields.entry ≢ entry → IsDenied bytes library entry
denied_other bytes library entry found straight again other =
    record {
      straight = λ text elements none is same.
          other (ap (λ (fields : Fields). fields.entry) (straight entry text elements none is same));
      none = λ fields made of_entry same.
          other (ap (λ (fields : Fields). fields.entry) (again fields made same) ∙ of_entry);
    }
