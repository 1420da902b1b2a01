-- The values of terms and forms.
use Rattle.teco_linear.proofs.Prelude.{◌≡◌, ℕ, ◌+◌, ◌^◌, ℤ, pos, negsuc, neg_ℤ, ◌+ℤ◌, ◌-ℤ◌, ◌*ℤ◌, List, [], ◌∷◌, ◌++◌}
use Rattle.teco_linear.proofs.Prelude.{Option, sym, ap, ◌∙◌, arith, ints, zero-*ℤ, Term, Scale, Valuation, symbol_value}
use Rattle.teco_linear.proofs.Prelude.{term_value, scale_value, value}
use Rattle.std.proofs.lemmas.Nat.{pow-add}
use Rattle.teco_linear.proofs.Integers.{+ℤ-*ℤ, times_power_0, one-*ℤ, neg-*ℤ, factors}

-- what a term counts besides its coefficient
abbrev pub unit_value : ℕ → Option ℕ → ℕ → Valuation → ℤ
unit_value power symbol n v = pos (n ^ power) *ℤ symbol_value v symbol

-- the coefficients of two terms of the same symbol and power, added
pub term_value-plus : (t u : Term) (c a k l : ℤ) → t.symbol ≡ u.symbol → t.power ≡ u.power → c ≡ a → a ≡ k +ℤ l
    → k ≡ t.coefficient → l ≡ u.coefficient → (n : ℕ) (v : Valuation)
    → c *ℤ unit_value t.power t.symbol n v ≡ term_value t n v +ℤ term_value u n v
term_value-plus t u c a k l same_symbol same_power e sum ek el n v =
    let x = unit_value t.power t.symbol n v in
    let other : unit_value u.power u.symbol n v ≡ x = cc in
    ap (λ z. z *ℤ x) (e ∙ sum ∙ ap (λ z. z +ℤ l) ek ∙ ap (λ z. t.coefficient +ℤ z) el)
    ∙ +ℤ-*ℤ t.coefficient u.coefficient x ∙ ap (λ z. t.coefficient *ℤ x +ℤ u.coefficient *ℤ z) (sym other)

-- a coefficient multiplied, and a power raised
pub term_value-scaled : (t : Term) (s : Scale) (power : ℕ) (c a k l : ℤ) → power ≡ t.power + s.power → c ≡ a
    → a ≡ k *ℤ l → k ≡ t.coefficient → l ≡ s.factor → (n : ℕ) (v : Valuation)
    → c *ℤ unit_value power t.symbol n v ≡ scale_value s n *ℤ term_value t n v
term_value-scaled t s power c a k l raised e product ek el n v =
    let p : pos (n ^ power) ≡ pos (n ^ t.power) *ℤ pos (n ^ s.power) =
    ap (λ k. pos (n ^ k)) raised ∙ ap pos (pow-add n t.power s.power) in
    let z : c ≡ t.coefficient *ℤ s.factor = e ∙ product ∙ ap (λ z. z *ℤ l) ek ∙ ap (λ z. t.coefficient *ℤ z) el in
    ap (λ z. z *ℤ unit_value power t.symbol n v) z
    ∙ ap (λ z. (t.coefficient *ℤ s.factor) *ℤ (z *ℤ symbol_value v t.symbol)) p
    ∙ factors t.coefficient s.factor (pos (n ^ t.power)) (pos (n ^ s.power)) (symbol_value v t.symbol)

pub value-append : (f g : List Term) (n : ℕ) (v : Valuation) → value (f ++ g) n v ≡ value f n v +ℤ value g n v
value-append [] g n v = omega (arith, ints)
value-append (t ∷ f) g n v = omega (arith, ints, value-append f g n v)

-- one more term
pub value-push : (f g : List Term) (t : Term) (n : ℕ) (v : Valuation) → g ≡ f ++ t ∷ []
    → value g n v ≡ value f n v +ℤ term_value t n v
value-push f g t n v e =
    ap (λ x. value x n v) e ∙ value-append f (t ∷ []) n v ∙ omega (arith, ints)

-- a term whose coefficient is 0
pub value-none : (f : List Term) (t : Term) (n : ℕ) (v : Valuation) → t.coefficient ≡ pos 0
    → value f n v ≡ value f n v +ℤ term_value t n v
value-none f t n v e =
    let none : term_value t n v ≡ pos 0 =
    ap (λ z. z *ℤ unit_value t.power t.symbol n v) e ∙ zero-*ℤ (unit_value t.power t.symbol n v) in
    omega (arith, ints)

-- a form, and another times -1
pub value-minus : (f g h k : List Term) (s : ℤ) → s ≡ negsuc 0
    → ((n : ℕ) (v : Valuation) → value h n v ≡ (s *ℤ pos (n ^ 0)) *ℤ value g n v)
    → ((n : ℕ) (v : Valuation) → value k n v ≡ value f n v +ℤ value h n v) → (n : ℕ) (v : Valuation)
    → value k n v ≡ value f n v -ℤ value g n v
value-minus f g h k s e negated added n v =
    let minus : value h n v ≡ neg_ℤ (pos 1 *ℤ value g n v) =
    negated n v ∙ ap (λ x. x *ℤ value g n v) (times_power_0 s n ∙ e) ∙ neg-*ℤ (pos 1) (value g n v) in
    omega (arith, ints, added n v, one-*ℤ (value g n v))
