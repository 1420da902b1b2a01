-- Why a form is the bound on a difference.
use Rattle.teco_linear.proofs.Prelude.{true, ◌≡◌, ℕ, ◌+◌, ◌^◌, ◌<◌, ◌≤◌, ℤ, pos, negsuc, neg_ℤ, ◌+ℤ◌, ◌-ℤ◌, ◌*ℤ◌}
use Rattle.teco_linear.proofs.Prelude.{List, Option, Some, None, length, drop, ap, ◌∙◌, refl, arith, ints, *ℤ_comm}
use Rattle.teco_linear.proofs.Prelude.{pow-zero, Term, Valuation, symbol_value, term_value, value, number_of}
use Rattle.std.proofs.Common.{is_none}
use Rattle.teco_linear.proofs.Integers.{neg-*ℤ, one-*ℤ}
use Rattle.teco_linear.proofs.Loops.{term_at, value-drop, value-drop_all}
use Rattle.teco_linear.specs.declared.difference.Difference.{Difference}
use Rattle.teco_linear.specs.Difference.{slack}

-- a term without N is its coefficient times its symbol
term_value-plain : (t : Term) (n : ℕ) (v : Valuation) → t.power ≡ 0
    → term_value t n v ≡ t.coefficient *ℤ symbol_value v t.symbol
term_value-plain t n v none =
    let one_is : n ^ t.power ≡ 1 = ap (λ k. n ^ k) none ∙ pow-zero n in
    ap (λ k. t.coefficient *ℤ (pos k *ℤ symbol_value v t.symbol)) one_is
    ∙ ap (λ x. t.coefficient *ℤ x) (one-*ℤ (symbol_value v t.symbol))

pub none_is : (o : Option ℕ) → is_none o ≡ true → o ≡ None
none_is None e = refl
none_is (Some x) e = cc

-- one more term: a number, a symbol on the right, and one on the left
pub slack-number : (d : Difference) (t : Term) (most a k l : ℤ) → t.power ≡ 0 → t.symbol ≡ None → most ≡ a
    → a ≡ k +ℤ l → k ≡ d.most → l ≡ t.coefficient → (n : ℕ) (v : Valuation)
    → (most +ℤ number_of v d.right) -ℤ number_of v d.left ≡ slack d v +ℤ term_value t n v
slack-number d t most a k l plain none e sum ek el n v =
    let once : term_value t n v ≡ pos 1 *ℤ t.coefficient =
    term_value-plain t n v plain ∙ ap (λ o. t.coefficient *ℤ symbol_value v o) none ∙ *ℤ_comm t.coefficient (pos 1) in
    omega (arith, ints, one-*ℤ t.coefficient)

pub slack-right : (d : Difference) (t : Term) (most : ℤ) (s : ℕ) → t.power ≡ 0 → t.symbol ≡ Some s
    → t.coefficient ≡ pos 1 → d.right ≡ None → most ≡ d.most → (n : ℕ) (v : Valuation)
    → (most +ℤ number_of v t.symbol) -ℤ number_of v d.left ≡ slack d v +ℤ term_value t n v
slack-right d t most s plain is one none e n v =
    let value_is : term_value t n v ≡ v s =
    term_value-plain t n v plain ∙ ap (λ k. k *ℤ symbol_value v t.symbol) one ∙ one-*ℤ (symbol_value v t.symbol)
    ∙ ap (symbol_value v) is in
    let right_is : number_of v d.right ≡ pos 0 = ap (number_of v) none in
    let symbol_is : number_of v t.symbol ≡ v s = ap (number_of v) is in
    omega (arith, ints)

pub slack-left : (d : Difference) (t : Term) (most : ℤ) (s : ℕ) → t.power ≡ 0 → t.symbol ≡ Some s
    → t.coefficient ≡ negsuc 0 → d.left ≡ None → most ≡ d.most → (n : ℕ) (v : Valuation)
    → (most +ℤ number_of v d.right) -ℤ number_of v t.symbol ≡ slack d v +ℤ term_value t n v
slack-left d t most s plain is minus none e n v =
    let value_is : term_value t n v ≡ neg_ℤ (v s) =
    term_value-plain t n v plain ∙ ap (λ k. k *ℤ symbol_value v t.symbol) minus
    ∙ neg-*ℤ (pos 1) (symbol_value v t.symbol)
    ∙ ap neg_ℤ (one-*ℤ (symbol_value v t.symbol)) ∙ ap (λ o. neg_ℤ (symbol_value v o)) is in
    let left_is : number_of v d.left ≡ pos 0 = ap (number_of v) none in
    let symbol_is : number_of v t.symbol ≡ v s = ap (number_of v) is in
    omega (arith, ints)

-- the terms before a place are in the difference
pub record IsDifference (terms : List Term) (i : ℕ) (d : Difference) : Type 0 where
  pub whole : (n : ℕ) (v : Valuation) → slack d v +ℤ value (drop i terms) n v ≡ value terms n v

pub IsDifference-more : (terms : List Term) (i : ℕ) (d e : Difference) → i < length terms
    → ((n : ℕ) (v : Valuation) → slack e v ≡ slack d v +ℤ term_value (term_at terms i) n v) → IsDifference terms i d
    → IsDifference terms (i + 1) e
IsDifference-more terms i d e h more is = record {
  whole = λ n v. omega (arith, ints, is.whole n v, more n v, value-drop terms i n v h);
}

pub IsDifference-all : (terms : List Term) (i : ℕ) (d : Difference) → length terms ≤ i → IsDifference terms i d
    → (n : ℕ) (v : Valuation) → value terms n v ≡ slack d v
IsDifference-all terms i d h is n v = omega (arith, ints, is.whole n v, value-drop_all terms i n v h)
