-- What writing does to the known bytes of a writer.
use Rattle.std.specs.Prelude.{ℕ, ◌≡◌, ◌<◌, List, length, take, Option, Result, Ok, Err}
use Rattle.std.specs.Io.KnownBytes.{Appends}
use Rattle.teco_session.specs.declared.fault.SessionFault.{SessionFault}
use Rattle.teco_session.specs.declared.fault.SessionFault.TheVariants.{Write}

-- a part of the bytes, from their front and less than all, was written
pub record WritesPart (old new : Option (List ℕ)) (bytes : List ℕ) : Type 0 where
  pub len : ℕ
  pub short : len < length bytes
  pub part : Appends old new (take len bytes)

-- all of the bytes were written, or with the fault of writing less than all
abbrev pub Writes : {X : Type 0} → Option (List ℕ) → Option (List ℕ) → List ℕ
    → Result X SessionFault → Type 0
Writes old new bytes (Ok done) = Appends old new bytes
Writes old new bytes (Err fault) = (fault ≡ Write) × WritesPart old new bytes
