-- What stands at the front of a text.
use Rattle.std.specs.Prelude.{◌≡◌, ◌≢◌, ℕ, List, [], ◌∷◌, ◌++◌, codes, Bool, true, false, ◌||◌, ◌==◌, ⊤}
use Rattle.std.specs.Char.{is_ascii_digit}
use Rattle.std.specs.List.{list_any}

-- a word does not stand there
abbrev pub LacksWord : List ℕ → List ℕ → Type 0
LacksWord text word = (rest : List ℕ) → text ≢ word ++ rest

-- Whether a word stands there, and what comes behind it; where it does not, that is the text.
pub record LooksFor (text word : List ℕ) (found : Bool) (behind : List ℕ) : Type 0 where
  pub there : (rest : List ℕ) → text ≡ word ++ rest → (found ≡ true) × (behind ≡ rest)
  pub not_there : LacksWord text word → (found ≡ false) × (behind ≡ text)

-- the bytes that polynomials are written with
abbrev pub is_of_polynomial : ℕ → Bool
is_of_polynomial c = is_ascii_digit c || list_any (λ d. c == d) (codes " +*^N")

-- none of these stands at the front
abbrev pub EndsPolynomial : List ℕ → Type 0
EndsPolynomial [] = ⊤
EndsPolynomial (c ∷ rest) = is_of_polynomial c ≡ false
