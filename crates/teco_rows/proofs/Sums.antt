-- What the loop over the multiples of a sum keeps.
use Rattle.teco_rows.proofs.Prelude.{◌≡◌, ℕ, ◌+◌, ◌^◌, ◌<◌, ◌≤◌, ℤ, pos, ◌+ℤ◌, ◌*ℤ◌, List, length, drop, get_or, ap}
use Rattle.teco_rows.proofs.Prelude.{◌∙◌, Steps, Of, Was, Before, weight, sum_of}
use Rattle.std.proofs.lemmas.List.{drop_more, drop_all}
use Rattle.std.proofs.Math.IntN.{one, *ℤ-one}
use Rattle.std.proofs.Math.Nat.{pow-zero}
use Rattle.teco_rows.specs.declared.row.Mark.TheVariants.{One}

pub *ℤ-1 : (z : ℤ) → z *ℤ pos 1 ≡ z
unfolding one
*ℤ-1 z = *ℤ-one z

pub times_power_0 : (k : ℤ) (n : ℕ) → k *ℤ pos (n ^ 0) ≡ k
times_power_0 k n = let e : n ^ 0 ≡ 1 = pow-zero n in ap (λ x. k *ℤ pos x) e ∙ *ℤ-1 k

-- what is read past the end of the multiples
abbrev pub no_part : ℤ × Of
no_part = (pos 0, Was (One Steps))

-- one multiple more
pub sum_of-drop : (b : Before) (parts : List (ℤ × Of)) (i : ℕ) (d : ℤ × Of) → i < length parts
    → sum_of b (drop i parts)
    ≡ (get_or parts i d).0 *ℤ weight b (get_or parts i d).1 +ℤ sum_of b (drop (i + 1) parts)
sum_of-drop b parts i d h = ap (sum_of b) (drop_more parts i d h)

pub sum_of-drop_all : (b : Before) (parts : List (ℤ × Of)) (i : ℕ) → length parts ≤ i
    → sum_of b (drop i parts) ≡ pos 0
sum_of-drop_all b parts i h = ap (sum_of b) (drop_all i parts h)

-- the product by a scale that has the factor of a part
pub product_is : (factor times form product weight : ℤ) (n : ℕ) → factor ≡ times → form ≡ weight
    → product ≡ (factor *ℤ pos (n ^ 0)) *ℤ form → product ≡ times *ℤ weight
product_is factor times form product weight n e w p =
    p ∙ ap (λ x. x *ℤ form) (times_power_0 factor n ∙ e) ∙ ap (λ x. times *ℤ x) w
