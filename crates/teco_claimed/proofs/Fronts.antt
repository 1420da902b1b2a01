-- What stands before the claims of a certificate.
use Rattle.std.proofs.Common.{◌≡◌, ℕ, List, ◌∷◌, ◌++◌, drop, refl, arith}
use Rattle.std.specs.Prelude.{codes}
use Rattle.teco_base.specs.declared.bytes.TheConstants.{LF}
use Rattle.teco_poly.specs.Front.{LacksWord}
use Rattle.teco_certificate.proofs.Spelling.{other_byte}
use Rattle.teco_claims.specs.Text.{text_of}
use Rattle.teco_claims.specs.Values.{Claimed}

-- the line of the rules is not that of an argument
pub no_argument : (rest : List ℕ) → LacksWord (codes "rules 3" ++ LF ∷ rest) (codes "argument ")
no_argument rest =
    other_byte (codes "rules 3" ++ LF ∷ rest) (codes "rgument ") (codes "ules 3" ++ LF ∷ rest) 114 97 refl
    (λ (same : 114 ≡ 97). omega arith)

-- nor is that of the most commands the line of a checksum
pub no_checksum : (claims : Claimed) → LacksWord (text_of claims) (codes "text ")
no_checksum claims =
    other_byte (text_of claims) (codes "ext ") (drop 1 (text_of claims)) 99 116 refl
    (λ (same : 99 ≡ 116). omega arith)
