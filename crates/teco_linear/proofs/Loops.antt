-- What the loops over terms keep.
use Rattle.teco_linear.proofs.Prelude.{◌≡◌, ℕ, ◌+◌, ◌<◌, ◌≤◌, pos, ◌+ℤ◌, ◌*ℤ◌, List, [], None, length, ◌-◌, drop}
use Rattle.teco_linear.proofs.Prelude.{get_or, ap, ◌∙◌, arith, ints, drop_more, drop_all, Term, Scale, Valuation}
use Rattle.teco_linear.proofs.Prelude.{term_value, scale_value, value}
use Rattle.std.proofs.Common.{take}
use Rattle.std.proofs.lemmas.List.{take_rest}
use Rattle.std.proofs.Math.IntN.{*ℤ-zero}
use Rattle.teco_linear.proofs.Integers.{*ℤ-+ℤ}

-- the terms before a place are multiplied: what is made and the rest, multiplied, are the whole
pub record IsScaled (terms : List Term) (s : Scale) (i : ℕ) (made : List Term) : Type 0 where
  pub whole : (n : ℕ) (v : Valuation)
      → value made n v +ℤ scale_value s n *ℤ value (drop i terms) n v ≡ scale_value s n *ℤ value terms n v

-- what is read past the end of the terms
abbrev pub no_term : Term
no_term = record { symbol = None; power = 0; coefficient = pos 0 }

abbrev pub term_at : List Term → ℕ → Term
term_at terms i = get_or terms i no_term

pub value-drop : (terms : List Term) (i : ℕ) (n : ℕ) (v : Valuation) → i < length terms
    → value (drop i terms) n v ≡ term_value (term_at terms i) n v +ℤ value (drop (i + 1) terms) n v
value-drop terms i n v h = ap (λ x. value x n v) (drop_more terms i no_term h)

pub value-drop_all : (terms : List Term) (i : ℕ) (n : ℕ) (v : Valuation) → length terms ≤ i
    → value (drop i terms) n v ≡ pos 0
value-drop_all terms i n v h = ap (λ x. value x n v) (drop_all i terms h)

pub IsScaled-none : (terms made : List Term) (s : Scale) → made ≡ [] → IsScaled terms s 0 made
IsScaled-none terms made s e = record {
  whole = λ n v.
      let none : value made n v ≡ pos 0 = ap (λ x. value x n v) e in
      omega (arith, ints);
}

pub IsScaled-more : (terms made more : List Term) (s : Scale) (i : ℕ) (u : Term) → i < length terms
    → ((n : ℕ) (v : Valuation) → term_value u n v ≡ scale_value s n *ℤ term_value (term_at terms i) n v)
    → ((n : ℕ) (v : Valuation) → value more n v ≡ value made n v +ℤ term_value u n v) → IsScaled terms s i made
    → IsScaled terms s (i + 1) more
IsScaled-more terms made more s i u h product added is = record {
  whole = λ n v.
      let k = scale_value s n in
      let rest : k *ℤ value (drop i terms) n v ≡ k *ℤ term_value (term_at terms i) n v +ℤ k *ℤ value
      (drop (i + 1) terms) n v =
      ap (λ x. k *ℤ x) (value-drop terms i n v h)
      ∙ *ℤ-+ℤ k (term_value (term_at terms i) n v) (value (drop (i + 1) terms) n v) in
      omega (arith, ints, is.whole n v, product n v, added n v);
}

pub IsScaled-all : (terms made : List Term) (s : Scale) (i : ℕ) → length terms ≤ i → IsScaled terms s i made
    → (n : ℕ) (v : Valuation) → value made n v ≡ scale_value s n *ℤ value terms n v
IsScaled-all terms made s i h is n v =
    let none : scale_value s n *ℤ value (drop i terms) n v ≡ pos 0 =
    ap (λ x. scale_value s n *ℤ x) (value-drop_all terms i n v h) ∙ *ℤ-zero (scale_value s n) in
    omega (arith, ints, is.whole n v)

-- the terms before two places are added: what is made and the two rests are the whole
pub record IsSum (left right : List Term) (i j : ℕ) (made : List Term) : Type 0 where
  pub whole : (n : ℕ) (v : Valuation)
      → value made n v +ℤ (value (drop i left) n v +ℤ value (drop j right) n v) ≡ value left n v +ℤ value right n v

pub IsSum-none : (left right made : List Term) → made ≡ [] → IsSum left right 0 0 made
IsSum-none left right made e = record {
  whole = λ n v.
      let none : value made n v ≡ pos 0 = ap (λ x. value x n v) e in
      omega (arith, ints);
}

pub IsSum-left : (left right made more : List Term) (i j : ℕ) → i < length left
    → ((n : ℕ) (v : Valuation) → value more n v ≡ value made n v +ℤ term_value (term_at left i) n v)
    → IsSum left right i j made → IsSum left right (i + 1) j more
IsSum-left left right made more i j h added is = record {
  whole = λ n v. omega (arith, ints, is.whole n v, added n v, value-drop left i n v h);
}

pub IsSum-right : (left right made more : List Term) (i j : ℕ) → j < length right
    → ((n : ℕ) (v : Valuation) → value more n v ≡ value made n v +ℤ term_value (term_at right j) n v)
    → IsSum left right i j made → IsSum left right i (j + 1) more
IsSum-right left right made more i j h added is = record {
  whole = λ n v. omega (arith, ints, is.whole n v, added n v, value-drop right j n v h);
}

pub IsSum-both : (left right made more : List Term) (i j : ℕ) (w : Term) → i < length left → j < length right
    → ((n : ℕ) (v : Valuation) → term_value w n v ≡ term_value (term_at left i) n v +ℤ term_value (term_at right j) n
    v) → ((n : ℕ) (v : Valuation)
    → value more n v ≡ value made n v +ℤ term_value w n v) → IsSum left right i j made → IsSum left right (i + 1)
    (j + 1) more
IsSum-both left right made more i j w hi hj plus added is = record {
  whole = λ n v.
      omega (arith, ints, is.whole n v, added n v, plus n v, value-drop left i n v hi, value-drop right j n v hj);
}

-- both rests are added
pub IsSum-all : (left right made more whole : List Term) (i j : ℕ)
    → ((n : ℕ) (v : Valuation) → value more n v ≡ value made n v +ℤ value (take (length left - i) (drop i left)) n v)
    → ((n : ℕ) (v : Valuation) → value whole n v ≡ value more n v +ℤ value (take (length right - j) (drop j right)) n
    v) → IsSum left right i j made → (n : ℕ) (v : Valuation) → value whole n v ≡ value left n v +ℤ value right n v
IsSum-all left right made more whole i j first second is n v =
    let first_rest = ap (λ x. value x n v) (take_rest left i) in
    let second_rest = ap (λ x. value x n v) (take_rest right j) in
    omega (arith, ints, is.whole n v, first n v, second n v, first_rest, second_rest)
