-- Polynomials, term by term.
use Rattle.teco_paths.proofs.Prelude.{◌≡◌, ℕ, zero, suc, ◌+◌, ◌*◌, ◌^◌, ◌<◌, ◌≤◌, refl, sym, ap, ◌∙◌, arith, List, []}
use Rattle.teco_paths.proofs.Prelude.{◌∷◌, ◌++◌, length, take, get_or, ints, pos, ◌*ℤ◌}
use Rattle.std.proofs.Math.Nat.{pow-zero, pow-suc}
use Rattle.teco_poly.specs.Polynomial.{value, value_from}

more_from : (p : List ℕ) (k from n d : ℕ) → k < length p
    → value_from from (take (suc k) p) n ≡ value_from from (take k p) n + get_or p k d * n ^ (from + k)
more_from [] k from n d l = absurd (omega arith)
more_from (x ∷ p) zero from n d l = let z : from + 0 ≡ from = omega arith in rw z (omega arith)
more_from (x ∷ p) (suc k) from n d l =
    let e : suc from + k ≡ from + suc k = omega arith in
    let rest : value_from (suc from) (take (suc k) p) n ≡ value_from (suc from) (take k p) n + get_or p k d * n ^
    (from + suc k) =
    more_from p k (suc from) n d (omega (arith, l))
    ∙ ap (λ j. value_from (suc from) (take k p) n + get_or p k d * n ^ j) e in
    omega (arith, rest)

pub one_term_more : (p : List ℕ) (k n d : ℕ) → k < length p
    → value (take (k + 1) p) n ≡ value (take k p) n + get_or p k d * n ^ k
one_term_more p k n d l =
    let z : k + 1 ≡ suc k = omega arith in
    let e : 0 + k ≡ k = omega arith in
    rw z (more_from p k 0 n d l ∙ ap (λ j. value (take k p) n + get_or p k d * n ^ j) e)

-- N as a term
pub of_n : (n : ℕ) → pos 1 *ℤ (pos (n ^ 1) *ℤ pos 1) ≡ pos n
of_n n =
    let once : n ^ 1 ≡ n = omega (arith, pow-suc n 0, ap (λ x. x * n) (pow-zero n)) in
    ap (λ k. pos 1 *ℤ (pos k *ℤ pos 1)) once ∙ omega (arith, ints)

-- one coefficient more, behind the others
pushed_from : (p : List ℕ) (c from n : ℕ)
    → value_from from (p ++ c ∷ []) n ≡ value_from from p n + c * n ^ (from + length p)
pushed_from [] c from n = let z : from + 0 ≡ from = omega arith in rw z (omega arith)
pushed_from (x ∷ p) c from n =
    let e : suc from + length p ≡ from + suc (length p) = omega arith in
    let rest : value_from (suc from) (p ++ c ∷ []) n ≡ value_from (suc from) p n + c * n ^ (from + suc (length p)) =
    pushed_from p c (suc from) n ∙ ap (λ j. value_from (suc from) p n + c * n ^ j) e in
    omega (arith, rest)

pub pushed : (p : List ℕ) (c n : ℕ) → value (p ++ c ∷ []) n ≡ value p n + c * n ^ length p
pushed p c n =
    let e : 0 + length p ≡ length p = omega arith in
    pushed_from p c 0 n ∙ ap (λ j. value p n + c * n ^ j) e

-- a number times a power is taken away, and the number is told
pub told_more : (whole left less : ℕ) (p : List ℕ) (c power n : ℕ) → whole ≡ value p n + left
    → left ≡ c * power + less → power ≡ n ^ length p → whole ≡ value (p ++ c ∷ []) n + less
told_more whole left less p c power n told taken is =
    let same : c * power ≡ c * n ^ length p = ap (λ x. c * x) is in
    omega (arith, told, taken, same, pushed p c n)

pub power_more : (p : List ℕ) (c power more n : ℕ) → power ≡ n ^ length p → more ≡ power * n
    → more ≡ n ^ length (p ++ c ∷ [])
power_more p c power more n is times =
    let e : suc (length p) ≡ length (p ++ c ∷ []) = omega (arith, length_pushed p) in
    let same : power * n ≡ n ^ length p * n = ap (λ x. x * n) is in
    let raised : n ^ length p * n ≡ n ^ suc (length p) = omega (arith, pow-suc n (length p)) in
    times ∙ same ∙ raised ∙ ap (λ j. n ^ j) e
  where
    length_pushed : (p : List ℕ) → length (p ++ c ∷ []) ≡ suc (length p)
    length_pushed [] = refl
    length_pushed (x ∷ p) = ap suc (length_pushed p)

-- at the end nothing is left
pub all_told : (whole left less : ℕ) (p : List ℕ) (c power n : ℕ) → whole ≡ value p n + left
    → left ≡ c * power + less → power ≡ n ^ length p → less ≤ 0 → value (p ++ c ∷ []) n ≡ whole
all_told whole left less p c power n told taken is none =
    omega (arith, none, told_more whole left less p c power n told taken is)

pub told_none : (whole : ℕ) → whole ≡ 0 + whole
told_none whole = omega arith

pub taken_away : (whole left multiple number factor power : ℕ) → left + multiple ≡ whole → multiple ≡ factor * power
    → factor ≡ number → whole ≡ number * power + left
taken_away whole left multiple number factor power behind product is =
    omega (arith, behind, product, ap (λ x. x * power) is)

pub first_power : (x n : ℕ) → x ≡ 1 → x ≡ n ^ 0
first_power x n e = e ∙ sym (pow-zero n)
