-- An array that is made by calls of one answer.
use Rattle.std.proofs.Common.{◌≡◌, ℕ, ◌<◌, List, get_or, replicate, sym, ◌∙◌, arith}
use Rattle.std.proofs.lemmas.List.{same_lists, length-replicate, get_or-replicate}
use Rattle.std.specs.Array.{IsFromFnResult}
use Rattle.std.specs.Fn.{Called}
use denote.Param.Members.{Mut}

-- where each call answers v, the array holds v alone
pub made_same : {F B : Type 0} (g : Mut F (ℕ × Unit {0}) B) (v : B) (same : (i : ℕ) (p q : F) (y : B)
    → Called g p (i, tt) y q → y ≡ v) (f : F) (ys : List B) (n : ℕ) → IsFromFnResult g f ys n → ys ≡ replicate n v
made_same g v same f ys n made =
    same_lists ys (replicate n v) (made.long ∙ sym (length-replicate n v)) (λ k d within.
    let below : k < n = omega arith in
    let called = made.at k d below in
    same k called.0 called.1 (get_or ys k d) called.2 ∙ sym (get_or-replicate n k v d below))
