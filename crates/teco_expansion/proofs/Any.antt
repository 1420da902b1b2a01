-- A search through a list, from a place on.
use Rattle.teco_expansion.proofs.Prelude.{◌≡◌, ℕ, zero, suc, ◌+◌, List, [], ◌∷◌, drop, Bool, ◌||◌, Some, refl, ap, ◌∙◌}
use Rattle.teco_expansion.proofs.Prelude.{true, slice_get, arith, list_any, is_open}
use Rattle.std.proofs.Common.{◌==◌}
use Rattle.std.proofs.lemmas.Bool.{eq-eqb}

any_at : {X : Type 0} (p : X → Bool) (xs : List X) (k : ℕ) (x : X) → slice_get xs k ≡ Some x
    → list_any p (drop k xs) ≡ (p x || list_any p (drop (suc k) xs))
any_at p [] k x h = absurd (cc)
any_at p (y ∷ xs) zero x h = let e : y ≡ x = cc in rw e refl
any_at p (y ∷ xs) (suc k) x h = any_at p xs k x h

pub any_from : {X : Type 0} (p : X → Bool) (xs : List X) (k : ℕ) (x : X) → slice_get xs k ≡ Some x
    → list_any p (drop k xs) ≡ (p x || list_any p (drop (k + 1) xs))
any_from p xs k x h =
    let one : suc k ≡ k + 1 = omega arith in
    any_at p xs k x h ∙ ap (λ n. p x || list_any p (drop n xs)) one

-- a register is among others where it stands at a place
pub open_at : (r : ℕ) (xs : List ℕ) (k x : ℕ) → is_open r xs ≡ is_open r (drop k xs) → slice_get xs k ≡ Some x → x ≡ r
    → is_open r xs ≡ true
open_at r xs k x e h same =
    let here = any_from (λ other. other == r) xs k x h in
    let is : (x == r) ≡ true = eq-eqb x r same in
    e ∙ here ∙ ap (λ b. b || list_any (λ other. other == r) (drop (k + 1) xs)) is
