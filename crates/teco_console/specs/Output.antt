-- What writing does to the known bytes of a writer.
use Rattle.std.specs.Prelude.{ℕ, List, take, Option, Result, Ok, Err}
use Rattle.std.specs.Io.KnownBytes.{Appends}

-- a front of the bytes was written: all of them, a part, or none
pub record WritesFront (old new : Option (List ℕ)) (bytes : List ℕ) : Type 0 where
  pub len : ℕ
  pub front : Appends old new (take len bytes)

-- the bytes were written, or with a fault a front of them
abbrev pub Writes : {X E : Type 0} → Option (List ℕ) → Option (List ℕ) → List ℕ → Result X E → Type 0
Writes old new bytes (Ok done) = Appends old new bytes
Writes old new bytes (Err fault) = WritesFront old new bytes
