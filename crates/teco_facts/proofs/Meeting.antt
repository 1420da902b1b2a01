-- Lists whose items are joined or replaced one after another.
use Rattle.teco_facts.proofs.Prelude.{◌≡◌, refl, ap, ℕ, ℤ, Option, zero, suc, ◌<◌, min, Bool, true, false, ◌&&◌}
use Rattle.teco_facts.proofs.Prelude.{if◌then◌else◌, List, [], ◌∷◌, ◌++◌, length, take, drop, set, get_or, arith}
use Rattle.teco_facts.proofs.Prelude.{Interval, hulls, each_met, replaced_where}
use Rattle.std.proofs.lemmas.List.{take_all}
use Rattle.teco_verifier.specs.facts.Bodies.{unknown_where, unsaved_where}
use Rattle.teco_verifier.specs.facts.Joins.{hull, joined_saved, smaller_fall, smaller_falls}
use Rattle.teco_verifier.specs.facts.Values.{any_number}

-- the first items are joined, and one more
pub met_more : {X : Type 0} (met : X → X → X) (xs ys : List X) (i : ℕ) (x y : X) → i < length xs → i < length ys
    → x ≡ get_or xs i x → y ≡ get_or ys i y
    → set (each_met met (take i xs) (take i ys) ++ drop i xs) i (met x y) ≡ each_met met (take (suc i) xs)
    (take (suc i) ys) ++ drop (suc i) xs
met_more met [] ys i x y h k d e = absurd (omega arith)
met_more met (a ∷ xs) [] i x y h k d e = absurd (omega arith)
met_more met (a ∷ xs) (b ∷ ys) zero x y h k d e = rw (d, e) refl
met_more met (a ∷ xs) (b ∷ ys) (suc i) x y h k d e =
    ap (λ others. met a b ∷ others) (met_more met xs ys i x y (omega arith) (omega arith) d e)

-- what is not joined yet is as it was
pub met_rest : {X : Type 0} (met : X → X → X) (xs ys : List X) (i : ℕ) (x : X) → i < length xs → i < length ys
    → x ≡ get_or (each_met met (take i xs) (take i ys) ++ drop i xs) i x → x ≡ get_or xs i x
met_rest met [] ys i x h k e = absurd (omega arith)
met_rest met (a ∷ xs) [] i x h k e = absurd (omega arith)
met_rest met (a ∷ xs) (b ∷ ys) zero x h k e = e
met_rest met (a ∷ xs) (b ∷ ys) (suc i) x h k e = met_rest met xs ys i x (omega arith) (omega arith) e

-- the first items of two joined lists
pub met_front : {X : Type 0} (met : X → X → X) (xs ys : List X) (n m k : ℕ) → k ≡ min n m
    → take k (each_met met xs ys) ≡ each_met met (take n xs) (take m ys)
met_front {X = X} met [] ys n m k e = rw (take_all {A = X} n [] (omega arith), take_all {A = X} k [] (omega arith)) refl
met_front {X = X} met (x ∷ xs) [] zero m k e = rw (take_all {A = X} k [] (omega arith)) refl
met_front {X = X} met (x ∷ xs) [] (suc n) m k e =
    rw (take_all {A = X} m [] (omega arith), take_all {A = X} k [] (omega arith)) refl
met_front met (x ∷ xs) (y ∷ ys) zero m k e = let none : k ≡ 0 = omega arith in rw none refl
met_front met (x ∷ xs) (y ∷ ys) (suc n) zero k e = let none : k ≡ 0 = omega arith in rw none refl
met_front met (x ∷ xs) (y ∷ ys) (suc n) (suc m) zero e = absurd (omega arith)
met_front met (x ∷ xs) (y ∷ ys) (suc n) (suc m) (suc k) e =
    ap (λ others. met x y ∷ others) (met_front met xs ys n m k (omega arith))

-- items that are replaced, up to one more
pub written_more : {X : Type 0} (other : X) (ws : List Bool) (xs : List X) (i : ℕ) → i < length ws → i < length xs
    → get_or ws i false ≡ true → set (replaced_where other (take i ws) xs) i other ≡ replaced_where other
    (take (suc i) ws) xs
written_more other [] xs i h l e = absurd (omega arith)
written_more other (w ∷ ws) [] i h l e = absurd (omega arith)
written_more other (w ∷ ws) (x ∷ xs) zero h l e = rw e refl
written_more other (w ∷ ws) (x ∷ xs) (suc i) h l e =
    ap (λ others. (if w then other else x) ∷ others) (written_more other ws xs i (omega arith) (omega arith) e)

pub kept_more : {X : Type 0} (other : X) (ws : List Bool) (xs : List X) (i : ℕ) → i < length ws → i < length xs
    → get_or ws i false ≡ false → replaced_where other (take i ws) xs ≡ replaced_where other (take (suc i) ws) xs
kept_more other [] xs i h l e = absurd (omega arith)
kept_more other (w ∷ ws) [] i h l e = absurd (omega arith)
kept_more other (w ∷ ws) (x ∷ xs) zero h l e = rw e refl
kept_more other (w ∷ ws) (x ∷ xs) (suc i) h l e =
    ap (λ others. (if w then other else x) ∷ others) (kept_more other ws xs i (omega arith) (omega arith) e)

-- the words of the rules
pub saved_are : (xs ys : List Bool) → each_met (λ s t. s && t) xs ys ≡ joined_saved xs ys
saved_are [] ys = refl
saved_are (x ∷ xs) [] = refl
saved_are (x ∷ xs) (y ∷ ys) = ap (λ others. (x && y) ∷ others) (saved_are xs ys)

pub falls_are : (xs ys : List (Option ℤ)) → each_met smaller_fall xs ys ≡ smaller_falls xs ys
falls_are [] ys = refl
falls_are (x ∷ xs) [] = refl
falls_are (x ∷ xs) (y ∷ ys) = ap (λ others. smaller_fall x y ∷ others) (falls_are xs ys)

pub hulls_are : (xs ys : List Interval) → each_met hull xs ys ≡ hulls xs ys
hulls_are [] ys = refl
hulls_are (x ∷ xs) [] = refl
hulls_are (x ∷ xs) (y ∷ ys) = ap (λ others. hull x y ∷ others) (hulls_are xs ys)

pub unknown_are : (ws : List Bool) (xs : List Interval) → replaced_where any_number ws xs ≡ unknown_where ws xs
unknown_are [] xs = refl
unknown_are (w ∷ ws) [] = refl
unknown_are (w ∷ ws) (x ∷ xs) = ap (λ others. (if w then any_number else x) ∷ others) (unknown_are ws xs)

pub unsaved_are : (ws xs : List Bool) → replaced_where false ws xs ≡ unsaved_where ws xs
unsaved_are [] xs = refl
unsaved_are (w ∷ ws) [] = refl
unsaved_are (w ∷ ws) (x ∷ xs) = ap (λ others. (if w then false else x) ∷ others) (unsaved_are ws xs)
