-- Lists that lie in arrays: one more at the front, and some fewer.
use Rattle.std.proofs.Common.{◌≡◌, sym, ap, ◌∙◌, ℕ, ◌<◌, ◌≤◌, ◌-◌, ◌+◌, min, List, [], ◌∷◌, ◌++◌, length, take, drop}
use Rattle.std.proofs.Common.{set, arith, length-take, length-drop, add-one, take-take}
use Rattle.std.proofs.lemmas.List.{take-append-le, drop-take}
use Rattle.std.proofs.lemmas.Grind.{common_steps}
use Rattle.std.specs.List.{copy_within}

twice : {X : Type 0} (xs ys : List X) (n : ℕ) → n ≤ length xs → take n (take n xs ++ ys) ≡ take n xs
twice xs ys n h =
    let long : n ≤ length (take n xs) = rw length-take (omega arith) in
    rw (take-append-le n (take n xs) ys long) (take-take n n xs (omega arith))

pub put_front : {X : Type 0} (xs : List X) (n : ℕ) (x : X) → n < length xs
    → take (n + 1) (set (copy_within xs 0 n 1) 0 x) ≡ x ∷ take n xs
put_front [] n x h = absurd (omega arith)
put_front (a ∷ xs) n x h =
    let all : n - 0 ≡ n = omega arith in
    rw (all, add-one) (ap (λ rest. x ∷ rest) (twice (a ∷ xs) (drop (1 + n) (a ∷ xs)) n (omega arith)))

pub dropped_front : {X : Type 0} (xs : List X) (n c : ℕ) → c ≤ n → n ≤ length xs
    → take (n - c) (copy_within xs c n 0) ≡ drop c (take n xs)
dropped_front xs n c h k =
    let rest : c + (n - c) ≡ n = omega arith in
    let long : n - c ≤ length (drop c xs) = rw length-drop (omega arith) in
    twice (drop c xs) (drop (0 + (n - c)) xs) (n - c) long
    ∙ (sym (drop-take c (n - c) xs) ∙ ap (λ m. drop c (take m xs)) rest)

pub drop_fewer : {X : Type 0} (xs : List X) (n k c : ℕ) → n ≤ length xs → c ≡ min k n
    → drop c (take n xs) ≡ drop k (take n xs)
drop_fewer xs n k c h e = grind (arith, common_steps)
