-- The laws of polynomials.
use Rattle.teco_poly.proofs.Prelude.{◌≡◌, ℕ, zero, suc, ◌+◌, ◌-◌, ◌*◌, ◌^◌, ◌<◌, ◌≤◌, max, Bool, true, false, [], ◌∷◌}
use Rattle.teco_poly.proofs.Prelude.{length, get_or, Some, None, sym, ap, ◌∙◌, refl, arith, pow-zero, pow-suc}
use Rattle.teco_poly.proofs.Prelude.{ext_get_or, IsPoly, Polynomial, value, sum, product, greater, differences, first}
use Rattle.teco_poly.proofs.Prelude.{fitted, one_less, sub, at, in_64_bits, is_at_most}
use Rattle.teco_poly.specs.Laws.{AnswersArePolys, ValuesOfConstants, ValueOfSum, ValueOfDifference, ValueOfProduct}
use Rattle.teco_poly.specs.Laws.{ValueOfJoin, ValueOfOneLess, ValueAt, ValuesCompare, ValuesGrow, ComparisonOrders}
use Rattle.teco_poly.specs.Laws.{JoinIsLeast, OneText}
use Rattle.teco_poly.specs.Polynomial.{number}
use Rattle.teco_poly.specs.Polynomial.{variable, join}
use Rattle.teco_poly.proofs.Fitting.{at_most_means, at_most_by, fitted_like, get_or-greater, get_or-differences}
use Rattle.teco_poly.proofs.Fitting.{length-differences}
use Rattle.teco_poly.proofs.Values.{value-cons, value-sum, value-product, value-differences, value-one_less}
use Rattle.teco_poly.proofs.Values.{value-fitted, value_at_most, value_grows}
use Rattle.teco_poly.proofs.Spelling as spelling

pub values_of_constants : ValuesOfConstants
values_of_constants n m =
    (omega (arith, ap (λ x. m * x) (pow-zero n)), omega (arith, pow-suc n 0, ap (λ x. x * n) (pow-zero n)))

pub value_of_sum : ValueOfSum
value_of_sum p q r n e = value-fitted (sum p q) r n e ∙ value-sum p q n

pub value_of_product : ValueOfProduct
value_of_product p q r n e = value-fitted (product p q) r n e ∙ value-product p q n

pub value_of_difference : ValueOfDifference
value_of_difference p q r n e = by_test (is_at_most q p) refl
  where
    by_test : (b : Bool) → is_at_most q p ≡ b → value r n + value q n ≡ value p n
    by_test true h =
        let some : sub p q ≡ Some (differences p q) = (rw h refl) in
        let is : r ≡ differences p q = (cc) in
        ap (λ d. value d n + value q n) is ∙ value-differences p q n (λ k. at_most_means q p k h)
    by_test false h = let none : sub p q ≡ None = (rw h refl) in absurd (cc)

-- at each power a join has the greater coefficient
joined : (p q r : Polynomial) → join p q ≡ Some r → (k : ℕ) → get_or r k 0 ≡ max (get_or p k 0) (get_or q k 0)
joined p q r e k = (fitted_like (greater p q) r (sym e)).2 k ∙ get_or-greater p q k

left_below : (p q r : Polynomial) → join p q ≡ Some r → (k : ℕ) → get_or p k 0 ≤ get_or r k 0
left_below p q r e k = omega (arith, joined p q r e k)

right_below : (p q r : Polynomial) → join p q ≡ Some r → (k : ℕ) → get_or q k 0 ≤ get_or r k 0
right_below p q r e k = omega (arith, joined p q r e k)

pub value_of_join : ValueOfJoin
value_of_join p q r n e = (value_at_most p r n (left_below p q r e), value_at_most q r n (right_below p q r e))

pub value_of_one_less : ValueOfOneLess
value_of_one_less [] n = (value-one_less [] n, omega arith)
value_of_one_less (c ∷ p) n = (value-one_less (c ∷ p) n, omega (arith, value-cons c p n, value-cons (c - 1) p n))

pub value_at : ValueAt
value_at p n v e = by_test (in_64_bits (value p n)) refl
  where
    by_test : (b : Bool) → in_64_bits (value p n) ≡ b → v ≡ value p n
    by_test true h = let some : at p n ≡ Some (value p n) = (rw h refl) in cc
    by_test false h = let none : at p n ≡ None = (rw h refl) in absurd (cc)

pub values_compare : ValuesCompare
values_compare p q n below = value_at_most p q n (λ k. at_most_means p q k below)

pub values_grow : ValuesGrow
values_grow p m n more = value_grows p m n more

-- what is fitted has nine small coefficients
fitted_poly : (p r : Polynomial) → fitted p ≡ Some r → IsPoly r
fitted_poly p r e =
    let like = fitted_like p r (sym e) in
    spelling.is_poly r like.0 (λ k. rw (like.2 k) (like.1.small k))

-- coefficients that are no greater are as small
below_poly : (p r : Polynomial) → IsPoly p → length r ≡ length p → ((k : ℕ) → get_or r k 0 ≤ get_or p k 0) → IsPoly r
below_poly p r is same below = spelling.is_poly r (same ∙ is.nine)
    (λ k. omega (arith, below k, spelling.small_at p k is.small))

zeros : (count k : ℕ) → get_or (first count []) k 0 ≡ 0
zeros zero k = refl
zeros (suc count) zero = refl
zeros (suc count) (suc k) = zeros count k

number_coefficient : (n k : ℕ) → n < 2 ^ 64 → get_or (number n) k 0 < 2 ^ 64
number_coefficient n zero small = small
number_coefficient n (suc k) small = omega (arith, zeros 8 k)

variable_coefficient : (k : ℕ) → get_or variable k 0 < 2 ^ 64
variable_coefficient zero = omega arith
variable_coefficient (suc zero) = omega arith
variable_coefficient (suc (suc k)) = omega (arith, zeros 7 k)

sub_poly : (p q r : Polynomial) → IsPoly p → sub p q ≡ Some r → IsPoly r
sub_poly p q r is e = by_test (is_at_most q p) refl
  where
    by_test : (b : Bool) → is_at_most q p ≡ b → IsPoly r
    by_test true h =
        let some : sub p q ≡ Some (differences p q) = (rw h refl) in
        let same : r ≡ differences p q = (cc) in
        rw same (below_poly p (differences p q) is (length-differences p q)
        (λ k. omega (arith, get_or-differences p q k)))
    by_test false h = let none : sub p q ≡ None = (rw h refl) in absurd (cc)

one_less_poly : (p : Polynomial) → IsPoly p → IsPoly (one_less p)
one_less_poly [] is = is
one_less_poly (c ∷ p) is = record { nine = is.nine; small = (omega (arith, is.small.0), is.small.1) }

pub answers_are_polys : AnswersArePolys
answers_are_polys = record {
  number = λ n small. spelling.is_poly (number n) refl (λ k. number_coefficient n k small);
  variable = spelling.is_poly variable refl variable_coefficient;
  add = λ p q r e. fitted_poly (sum p q) r e;
  sub = sub_poly;
  mul = λ p q r e. fitted_poly (product p q) r e;
  join = λ p q r e. fitted_poly (greater p q) r e;
  one_less = one_less_poly;
}

pub comparison_orders : ComparisonOrders
comparison_orders = record {
  reflexive = λ p. at_most_by p p (λ k. omega arith);
  transitive = λ p q r below above.
      at_most_by p r (λ k. omega (arith, at_most_means p q k below, at_most_means q r k above));
  antisymmetric = λ p q is_p is_q below above.
      ext_get_or 0 p q (is_p.nine ∙ sym is_q.nine)
      (λ k within. omega (arith, at_most_means p q k below, at_most_means q p k above));
}

pub join_is_least : JoinIsLeast
join_is_least = record {
  left = λ p q r e. at_most_by p r (left_below p q r e);
  right = λ p q r e. at_most_by q r (right_below p q r e);
  least = λ p q r s e left right.
      at_most_by r s (λ k. omega (arith, joined p q r e k, at_most_means p s k left, at_most_means q s k right));
}

pub one_text : OneText
one_text p q is_p is_q e = spelling.one_text p q _ is_p is_q refl e
