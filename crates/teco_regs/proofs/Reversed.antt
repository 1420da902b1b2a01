-- Facts of a list in the other direction.
use Rattle.std.proofs.Common.{◌≡◌, ℕ, List, reverse}
use Rattle.std.proofs.lemmas.List.{reverse-reverse}
use Rattle.std.proofs.lemmas.List.Elements.{All-from_recursion, recursion_from_All}
use Rattle.std.proofs.lemmas.List.Sorted.{All-permutation, IsPermutation-reverse, sum_by-IsPermutation}
use Rattle.std.specs.List.{AllByRecursion}
use Rattle.std.specs.Prelude.{All, sum_by}

pub sum_by-reverse : {X : Type 0} (f : X → ℕ) (xs : List X) → sum_by f (reverse xs) ≡ sum_by f xs
sum_by-reverse f xs = sum_by-IsPermutation f xs (reverse xs) (IsPermutation-reverse xs)

pub All-from_reverse : {X : Type 0} (P : X → Type 0) (xs : List X) → All P (reverse xs) → All P xs
All-from_reverse P xs all =
    let again : All P (reverse (reverse xs)) =
    All-permutation P (reverse xs) (reverse (reverse xs)) (IsPermutation-reverse (reverse xs)) all in
    rw (reverse-reverse xs) at again

pub each_reversed : {X : Type 0} (P : X → Type 0) (xs : List X) → AllByRecursion P xs → AllByRecursion P (reverse xs)
each_reversed P xs all =
    recursion_from_All P (reverse xs)
    (All-permutation P xs (reverse xs) (IsPermutation-reverse xs) (All-from_recursion P xs all))

pub ruleset reversed = (sum_by-reverse)
