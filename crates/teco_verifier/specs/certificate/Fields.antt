-- What a certificate says, and what it is found of.
use Rattle.std.specs.Prelude.{ℕ, List, Option}
use Rattle.teco_poly.specs.Polynomial.{Polynomial}
use Rattle.teco_model.specs.Macros.{ArgumentRange, Needs, Library}
use Rattle.teco_verifier.specs.table.Choices.{Chosen}

-- The register that is called, the argument that it takes, if any, the files that must be open, the most steps, the
-- most that is held, and what was chosen for each < whose body is reached.
pub record Fields : Type 0 where
  pub entry : ℕ
  pub argument : Option ArgumentRange
  pub needs : Needs
  pub commands : Polynomial
  pub size : Polynomial
  pub loops : List Chosen

-- The library's texts, and what the certificate says of the entry.
pub record Finding : Type 0 where
  pub library : Library
  pub fields : Fields
