-- Sums over the numbers below a bound, and products over lists.
use Rattle.std.proofs.Common.{◌≡◌, ℕ, zero, suc, ◌+◌, ◌*◌, ◌<◌, ◌≤◌, ⊎_elim, List, [], ◌∷◌, ◌++◌, sym, refl, arith}
use Rattle.std.proofs.Common.{le_refl, mul_assoc}
use Rattle.std.proofs.lemmas.Bool.{cases_lt}
use Rattle.teco_law_turns.specs.Table.{sum_below, product_by}

-- a sum grows with its bound
pub sum_below-le : (f : ℕ → ℕ) (a b : ℕ) → a ≤ b → sum_below f a ≤ sum_below f b
sum_below-le f a zero le = let e : a ≡ 0 = omega arith in rw e (le_refl _)
sum_below-le f a (suc b) le =
    ⊎_elim (λ (lt : a < suc b). let deeper = sum_below-le f a b (omega arith) in omega arith)
    (λ (ge : suc b ≤ a). let e : a ≡ suc b = omega arith in rw e (le_refl _)) (cases_lt a (suc b))

-- where each part is t times another, so is the sum
pub sum_below-times : (f g : ℕ → ℕ) (t a b : ℕ) → a ≤ b → ((j : ℕ) → a ≤ j → j < b → f j ≡ t * g j)
    → sum_below f b + t * sum_below g a ≡ sum_below f a + t * sum_below g b
sum_below-times f g t a zero le each = let e : a ≡ 0 = omega arith in rw e refl
sum_below-times f g t a (suc b) le each =
    ⊎_elim
    (λ (lt : a < suc b). let deeper = sum_below-times f g t a b (omega arith) (λ j low high. each j low (omega arith))
    in let own = each b (omega arith) (omega arith) in omega arith)
    (λ (ge : suc b ≤ a). let e : a ≡ suc b = omega arith in rw e refl)
    (cases_lt a (suc b))

pub sum_below-same : (f g : ℕ → ℕ) (n : ℕ) → ((j : ℕ) → f j ≡ g j) → sum_below f n ≡ sum_below g n
sum_below-same f g zero each = refl
sum_below-same f g (suc n) each = let deeper = sum_below-same f g n each in let own = each n in omega arith

-- the product over two lists
pub product_by-append : (f : ℕ → ℕ) (xs ys : List ℕ) → product_by f (xs ++ ys) ≡ product_by f xs * product_by f ys
product_by-append f [] ys = omega arith
product_by-append f (x ∷ xs) ys =
    rw (product_by-append f xs ys) (sym (mul_assoc (f x) (product_by f xs) (product_by f ys)))
