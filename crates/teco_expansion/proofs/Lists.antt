-- Lists from their ends.
use Rattle.std.proofs.Common.{◌≡◌, refl, sym, ap, ◌∙◌, ℕ, ◌-◌, ◌≤◌, List, length, take, drop, reverse, ⊎_elim}
use Rattle.std.proofs.Common.{length-take, length-drop, arith}
use Rattle.std.proofs.lemmas.List.{take-append-drop, reverse-append, length-reverse, drop_at, drop_all, take-take}
use Rattle.std.proofs.lemmas.Bool.{cases_lt}

-- what is dropped at the front of a list that is turned round is cut off at the end of it
drop_within : {X : Type 0} (ys : List X) (count : ℕ) → count ≤ length ys
    → reverse (take (length ys - count) ys) ≡ drop count (reverse ys)
drop_within ys count h =
    let a = take (length ys - count) ys in
    let b = drop (length ys - count) ys in
    let all : length (reverse b) ≡ count = rw (length-reverse, length-drop) (omega arith) in
    sym (ap (λ zs. drop count (reverse zs)) (sym (take-append-drop (length ys - count) ys))
    ∙ ap (drop count) (reverse-append a b) ∙ drop_at (reverse b) (reverse a) count all)

drop_past : {X : Type 0} (ys : List X) (count : ℕ) → length ys ≤ count
    → reverse (take (length ys - count) ys) ≡ drop count (reverse ys)
drop_past ys count h =
    let none : length ys - count ≡ 0 = omega arith in
    let short : length (reverse ys) ≤ count = rw length-reverse h in
    rw (none, drop_all count (reverse ys) short) refl

drop-reverse : {X : Type 0} (ys : List X) (count : ℕ) → reverse (take (length ys - count) ys) ≡ drop count (reverse ys)
drop-reverse ys count = ⊎_elim (λ h. drop_within ys count (omega arith)) (λ h. drop_past ys count h)
    (cases_lt count (length ys))

pub drop-reverse-take : {X : Type 0} (xs : List X) (n count : ℕ) → n ≤ length xs
    → reverse (take (n - count) xs) ≡ drop count (reverse (take n xs))
drop-reverse-take xs n count h =
    let long : length (take n xs) ≡ n = rw length-take (omega arith) in
    let less : n - count ≤ n = omega arith in
    ap reverse (sym (take-take (n - count) n xs less)) ∙ ap (λ k. reverse (take (k - count) (take n xs))) (sym long)
    ∙ drop-reverse (take n xs) count
