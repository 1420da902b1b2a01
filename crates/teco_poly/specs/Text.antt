-- The text of a polynomial: its terms by ascending powers, those of coefficient 0 left out, joined by ` + `.
use Rattle.std.specs.Prelude.{ℕ, zero, suc, List, [], ◌∷◌, ◌++◌, codes, ◌==◌, if◌then◌else◌}
use Rattle.std.specs.Fmt.{decimal}
use Rattle.teco_poly.specs.Polynomial.{Polynomial}

-- a power of N: `N`, and `N^k` from the second on; that of the constant is not written
abbrev pub power_text : ℕ → List ℕ
power_text zero = []
power_text (suc zero) = codes "N"
power_text (suc (suc k)) = codes "N^" ++ decimal (suc (suc k))

-- what stands before the power: the coefficient in decimal, and `*` before N, where a coefficient of 1 is left out
abbrev pub coefficient_text : ℕ → ℕ → List ℕ
coefficient_text c zero = decimal c
coefficient_text c (suc k) = if c == 1 then [] else decimal c ++ codes "*"

abbrev pub term_text : ℕ → ℕ → List ℕ
term_text c power = coefficient_text c power ++ power_text power

-- the terms of a polynomial whose first coefficient is that of a power
abbrev pub terms_from : ℕ → Polynomial → List (List ℕ)
terms_from power [] = []
terms_from power (c ∷ p) =
    if c == 0 then terms_from (suc power) p else term_text c power ∷ terms_from (suc power) p

-- terms in order, the first behind `lead` and each other behind ` + `
abbrev pub joined : List ℕ → List (List ℕ) → List ℕ
joined lead [] = []
joined lead (t ∷ ts) = lead ++ (t ++ joined (codes " + ") ts)

-- what leads the next term behind a text: nothing at its start
abbrev pub lead_behind : List ℕ → List ℕ
lead_behind [] = []
lead_behind (c ∷ text) = codes " + "

-- the terms joined; the polynomial that has none is `0`
abbrev pub joined_or_zero : List (List ℕ) → List ℕ
joined_or_zero [] = codes "0"
joined_or_zero (t ∷ ts) = joined [] (t ∷ ts)

abbrev pub text : Polynomial → List ℕ
text p = joined_or_zero (terms_from 0 p)
