-- What is chosen for the body of a <.
use Rattle.std.specs.Prelude.{ℕ, List, Bool}
use Rattle.teco_poly.specs.Polynomial.{Polynomial}

-- a text that may be longer in the body than at the <, and the most that it has there
pub record LongerText : Type 0 where
  pub register : ℕ
  pub text : Polynomial

-- the number of the <, how much is held, whether it is kept, and the texts that may be longer
pub record Chosen : Type 0 where
  pub begin : ℕ
  pub held : Polynomial
  pub kept : Bool
  pub longer : List LongerText
