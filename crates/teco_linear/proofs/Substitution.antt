-- What the loop that puts forms in place of symbols keeps.
use Rattle.teco_linear.proofs.Prelude.{◌≡◌, ℕ, ◌+◌, ◌^◌, ◌<◌, ◌≤◌, pos, ◌+ℤ◌, ◌*ℤ◌, List, [], Option, Some, None}
use Rattle.teco_linear.proofs.Prelude.{length, drop, ap, ◌∙◌, refl, arith, ints, Term, Scale, Valuation, symbol_value}
use Rattle.teco_linear.proofs.Prelude.{term_value, scale_value, value}
use Rattle.teco_linear.proofs.Integers.{*ℤ_assoc}
use Rattle.teco_linear.proofs.Loops.{term_at, value-drop, value-drop_all}
use Rattle.teco_linear.specs.Form.{values, form_in_place}

-- the terms before a place are done: what is made, and the value of the rest, are the whole
pub record IsSubstituted (terms : List Term) (forms : List (List Term)) (i : ℕ) (made : List Term) : Type 0 where
  pub whole : (n : ℕ) (v : Valuation)
      → value made n v +ℤ value (drop i terms) n (values forms n v) ≡ value terms n (values forms n v)

pub IsSubstituted-none : (terms made : List Term) (forms : List (List Term)) → made ≡ []
    → IsSubstituted terms forms 0 made
IsSubstituted-none terms made forms e = record {
  whole = λ n v.
      let none : value made n v ≡ pos 0 = ap (λ x. value x n v) e in
      omega (arith, ints);
}

-- the value of what stands for a symbol
form_value : (one : List Term) (forms : List (List Term)) (symbol : Option ℕ) (n : ℕ) (v : Valuation)
    → value one n v ≡ pos 1 → value (form_in_place one forms symbol) n v ≡ symbol_value (values forms n v) symbol
form_value one forms None n v e = e
form_value one forms (Some symbol) n v e = refl

pub IsSubstituted-more : (terms made more one form product : List Term) (forms : List (List Term)) (s : Scale) (i : ℕ)
    → i < length terms → ((n : ℕ) (v : Valuation) → value one n v ≡ pos 1)
    → form ≡ form_in_place one forms (term_at terms i).symbol
    → ((n : ℕ) → scale_value s n ≡ (term_at terms i).coefficient *ℤ pos (n ^ (term_at terms i).power))
    → ((n : ℕ) (v : Valuation) → value product n v ≡ scale_value s n *ℤ value form n v)
    → ((n : ℕ) (v : Valuation) → value more n v ≡ value made n v +ℤ value product n v)
    → IsSubstituted terms forms i made → IsSubstituted terms forms (i + 1) more
IsSubstituted-more terms made more one form product forms s i h one_is stands scale_is product_is added is = record {
  whole = λ n v.
      let t = term_at terms i in
      let w = values forms n v in
      let at : value form n v ≡ symbol_value w t.symbol =
      ap (λ x. value x n v) stands ∙ form_value one forms t.symbol n v (one_is n v) in
      let made_is : value product n v ≡ term_value t n w =
      product_is n v ∙ ap (λ x. x *ℤ value form n v) (scale_is n)
      ∙ ap (λ x. (t.coefficient *ℤ pos (n ^ t.power)) *ℤ x) at
      ∙ *ℤ_assoc t.coefficient (pos (n ^ t.power)) (symbol_value w t.symbol) in
      omega (arith, ints, is.whole n v, added n v, value-drop terms i n w h);
}

pub IsSubstituted-all : (terms made : List Term) (forms : List (List Term)) (i : ℕ) → length terms ≤ i
    → IsSubstituted terms forms i made → (n : ℕ) (v : Valuation) → value made n v ≡ value terms n (values forms n v)
IsSubstituted-all terms made forms i h is n v =
    omega (arith, ints, is.whole n v, value-drop_all terms i n (values forms n v) h)
