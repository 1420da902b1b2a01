-- The texts of the powers of N.
use Rattle.teco_poly.proofs.Prelude.{◌≡◌, ℕ, suc, ◌+◌, ◌<◌, [], ◌∷◌, ◌++◌, sym, ap, ◌∙◌, codes, decimal_digit}
use Rattle.teco_poly.proofs.Prelude.{power_text}

-- a power of one digit
one_digit : (k : ℕ) → suc (suc k) < 10 → codes "N^" ++ (48 + suc (suc k)) ∷ [] ≡ power_text (suc (suc k))
one_digit k h = ap (λ ds. codes "N^" ++ ds) (sym (decimal_digit (suc (suc k)) h))

pub power_is : (n power : ℕ) → power ≡ suc (suc n) → suc (suc n) < 10
    → codes "N^" ++ (48 + suc (suc n)) ∷ [] ≡ power_text power
power_is n power e h = one_digit n h ∙ ap power_text (sym e)
