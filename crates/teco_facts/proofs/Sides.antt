-- Two lists that are gone through side by side.
use Rattle.teco_facts.proofs.Prelude.{◌≡◌, refl, ℕ, zero, suc, ◌<◌, Bool, true, false, ◌&&◌, List, [], ◌∷◌, length}
use Rattle.teco_facts.proofs.Prelude.{get_or, arith, each_covers}

and_false : (b : Bool) → false ≡ (b && false)
and_false true = refl
and_false false = refl

pub each_at_false : {X : Type 0} (covers : X → X → Bool) (xs ys : List X) (k : ℕ) (x y : X) → k < length xs
    → k < length ys → x ≡ get_or xs k x → y ≡ get_or ys k y → covers x y ≡ false → false ≡ each_covers covers xs ys
each_at_false covers [] ys k x y h i d e f = absurd (omega arith)
each_at_false covers (a ∷ xs) [] k x y h i d e f = absurd (omega arith)
each_at_false covers (a ∷ xs) (b ∷ ys) zero x y h i d e f = rw (← d, ← e, f) refl
each_at_false covers (a ∷ xs) (b ∷ ys) (suc k) x y h i d e f =
    rw (← each_at_false covers xs ys k x y (omega arith) (omega arith) d e f) (and_false (covers a b))
