-- The node of a number, among those that are seen.
use Rattle.teco_expansion.proofs.Prelude.{◌≡◌, ℕ, zero, suc, List, ◌∷◌, map, Option, Some, sym, ap, ◌∙◌, arith}
use Rattle.teco_expansion.proofs.Prelude.{numbered}

same : {X : Type 0} (x y : X) → Path (Option X) (Some x) (Some y) → x ≡ y
same x y h = cc

pub seen_at : {X Y : Type 0} (f : X → Y) (xs : List X) (number : ℕ) (x : X) (y : Y)
    → numbered (map f xs) number ≡ Some y → numbered xs number ≡ Some x → f x ≡ y
seen_at f (z ∷ xs) (suc zero) x y h g = let e : z ≡ x = same z x g in ap f (sym e) ∙ same (f z) y h
seen_at f (z ∷ xs) (suc (suc k)) x y h g = seen_at f xs (suc k) x y h g
seen_at f xs number x y h g = absurd (grind arith)
