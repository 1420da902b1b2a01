-- What is read of a text from its front.
use Rattle.std.specs.Prelude.{◌≡◌, ℕ, zero, suc, ◌<◌, ◌^◌, false, List, [], ◌∷◌, ◌++◌, length, codes, ⊤}
use Rattle.std.specs.Char.{is_ascii_digit}
use Rattle.std.specs.Fmt.{decimal}
use Rattle.teco_poly.specs.Text.{coefficient_text, term_text}
use Rattle.teco_poly.specs.Polynomial.{Polynomial}

-- no digit stands at the front
abbrev pub EndsNumber : List ℕ → Type 0
EndsNumber [] = ⊤
EndsNumber (c ∷ rest) = is_ascii_digit c ≡ false

-- Behind the coefficient of a term no digit stands, where the power or the coefficient is not written.
abbrev pub EndsCoefficient : ℕ → ℕ → List ℕ → Type 0
EndsCoefficient zero c rest = EndsNumber rest
EndsCoefficient (suc k) c rest = c ≡ 1 → EndsNumber rest

-- a space stands at the front, or nothing
abbrev pub EndsTerm : List ℕ → Type 0
EndsTerm [] = ⊤
EndsTerm (c ∷ rest) = c ≡ 32

-- A number stands at the front of a text, and then the rest. The same of a coefficient, and of a term that is not 0.
pub record IsNumberAt (text : List ℕ) (n : ℕ) (rest : List ℕ) : Type 0 where
  pub small : n < 2 ^ 64
  pub spelled : text ≡ decimal n ++ rest
  pub ends : EndsNumber rest

pub record IsCoefficientAt (text : List ℕ) (power c : ℕ) (rest : List ℕ) : Type 0 where
  pub small : c < 2 ^ 64
  pub spelled : text ≡ coefficient_text c power ++ rest
  pub ends : EndsCoefficient power c rest

pub record IsTermAt (text : List ℕ) (power c : ℕ) (rest : List ℕ) : Type 0 where
  pub some : 0 < c
  pub small : c < 2 ^ 64
  pub spelled : text ≡ term_text c power ++ rest
  pub ends : EndsTerm rest

-- what leads a term, the term, and then the rest
abbrev pub IsLedTermAt : List ℕ → List ℕ → ℕ → ℕ → List ℕ → Type 0
IsLedTermAt text lead power c rest = (led : List ℕ) × (text ≡ lead ++ led) × IsTermAt led power c rest

-- The coefficient of a power at the front of a text, the rest, and what leads the next term. It is 0 where there is no
-- term of that power.
abbrev pub IsNextAt : List ℕ → List ℕ → ℕ → ℕ → List ℕ → List ℕ → Type 0
IsNextAt text lead power zero rest next =
    (rest ≡ text) × (next ≡ lead) × ((c : ℕ) (x : List ℕ) → IsLedTermAt text lead power c x → ⊥)
IsNextAt text lead power (suc c) rest next = (next ≡ codes " + ") × IsLedTermAt text lead power (suc c) rest

-- coefficients that 64 bits hold
abbrev pub AreSmall : Polynomial → Type 0
AreSmall [] = ⊤
AreSmall (c ∷ p) = (c < 2 ^ 64) × AreSmall p

-- the polynomials that a `Poly` may be: nine coefficients, each below 2^64
pub record IsPoly (p : Polynomial) : Type 0 where
  pub nine : length p ≡ 9
  pub small : AreSmall p
