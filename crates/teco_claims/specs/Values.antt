-- What a certificate of the linear rules claims.
use Rattle.std.specs.Prelude.{ℕ, List, Option}
use Rattle.teco_claims.specs.declared.term.ClaimTerm.{ClaimTerm}
use Rattle.teco_poly.specs.Polynomial.{Polynomial}

-- the claims at a cut point, each a list of terms whose sum is at least 0
pub record AtCut : Type 0 where
  pub point : ℕ
  pub claims : List (List ClaimTerm)

-- the printed bounds, those on what is added to the text and on typed bytes only where they are claimed, and the claims
-- at each cut point
pub record Claimed : Type 0 where
  pub commands : Polynomial
  pub size : Polynomial
  pub grows : Option Polynomial
  pub types : Option Polynomial
  pub cuts : List AtCut
