-- What reading claims gives.
use Rattle.std.specs.Prelude.{◌≡◌, ◌≤◌, ℕ, List, length, take, Result, Ok, Err}
use Rattle.teco_claims.specs.declared.fault.ClaimsFault.{ClaimsFault}
use Rattle.teco_claims.specs.declared.fault.ClaimsFault.TheVariants.{NotClaims, Memory}
use Rattle.teco_claims.specs.Spelled.{IsSpelled}
use Rattle.teco_claims.specs.Text.{text_of}
use Rattle.teco_claims.specs.Values.{Claimed}

-- a text is that of these claims
pub record IsTextOf (claimed : Claimed) (text : List ℕ) : Type 0 where
  pub spelled : IsSpelled claimed
  pub spelling : text ≡ text_of claimed

-- a text is that of these claims and of no others
pub record IsReadAs (claimed : Claimed) (text : List ℕ) : Type 0 where
  pub is : IsTextOf claimed text
  pub only : (other : Claimed) → IsTextOf other text → claimed ≡ other

-- the bytes before a place are the front of a text of claims
pub record IsFront (text : List ℕ) (place : ℕ) : Type 0 where
  pub within : place ≤ length text
  pub claimed : Claimed
  pub spelled : IsSpelled claimed
  pub same : take place text ≡ take place (text_of claimed)

-- a text of no claims, which up to a place is that of some
pub record IsNoText (text : List ℕ) (place : ℕ) : Type 0 where
  pub none : (claimed : Claimed) → IsTextOf claimed text → ⊥
  pub front : IsFront text place

-- the claims whose text it is, or none exactly where it is the text of none
abbrev pub Reads : List ℕ → Result Claimed ClaimsFault → Type 0
Reads text (Ok claimed) = IsReadAs claimed text
Reads text (Err (NotClaims place)) = IsNoText text place
Reads text (Err Memory) = Unit {0}
