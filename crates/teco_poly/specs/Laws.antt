-- What the operations on polynomials do to their values, and what the comparison is. Each is said of all polynomials,
-- of any length and with coefficients of any size.
use Rattle.std.specs.Prelude.{◌≡◌, ℕ, ◌+◌, ◌*◌, ◌^◌, ◌<◌, ◌≤◌, IsTrue, Some}
use Rattle.teco_poly.specs.Polynomial.{Polynomial, value, number, variable, add, sub, mul, join, one_less, at}
use Rattle.teco_poly.specs.Polynomial.{is_at_most}
use Rattle.teco_poly.specs.Reading.{IsPoly}
use Rattle.teco_poly.specs.Text.{text}

-- a number has itself as its value, and N the number that it stands for
abbrev pub ValuesOfConstants : Type 0
ValuesOfConstants = (n m : ℕ) → (value (number m) n ≡ m) × (value variable n ≡ n)

-- the value of a sum is the sum of the values
abbrev pub ValueOfSum : Type 0
ValueOfSum = (p q r : Polynomial) (n : ℕ) → add p q ≡ Some r → value r n ≡ value p n + value q n

-- the value of a difference and that of what was taken away are the value of the whole
abbrev pub ValueOfDifference : Type 0
ValueOfDifference = (p q r : Polynomial) (n : ℕ) → sub p q ≡ Some r → value r n + value q n ≡ value p n

-- the value of a product is the product of the values
abbrev pub ValueOfProduct : Type 0
ValueOfProduct = (p q r : Polynomial) (n : ℕ) → mul p q ≡ Some r → value r n ≡ value p n * value q n

-- the value of a join is at least both values
abbrev pub ValueOfJoin : Type 0
ValueOfJoin =
    (p q r : Polynomial) (n : ℕ) → join p q ≡ Some r → (value p n ≤ value r n) × (value q n ≤ value r n)

-- what is lowered by one is lower by one at most
abbrev pub ValueOfOneLess : Type 0
ValueOfOneLess =
    (p : Polynomial) (n : ℕ) → (value p n ≤ value (one_less p) n + 1) × (value (one_less p) n ≤ value p n)

-- a value that 64 bits hold is the value
abbrev pub ValueAt : Type 0
ValueAt = (p : Polynomial) (n v : ℕ) → at p n ≡ Some v → v ≡ value p n

-- a polynomial that is at most another has no greater value
abbrev pub ValuesCompare : Type 0
ValuesCompare = (p q : Polynomial) (n : ℕ) → IsTrue (is_at_most p q) → value p n ≤ value q n

-- values grow with N
abbrev pub ValuesGrow : Type 0
ValuesGrow = (p : Polynomial) (m n : ℕ) → m ≤ n → value p m ≤ value p n

-- What is answered is a polynomial that a `Poly` may be: nine coefficients, each below 2^64.
pub record AnswersArePolys : Type 0 where
  pub number : (n : ℕ) → n < 2 ^ 64 → IsPoly (number n)
  pub variable : IsPoly variable
  pub add : (p q r : Polynomial) → add p q ≡ Some r → IsPoly r
  pub sub : (p q r : Polynomial) → IsPoly p → sub p q ≡ Some r → IsPoly r
  pub mul : (p q r : Polynomial) → mul p q ≡ Some r → IsPoly r
  pub join : (p q r : Polynomial) → join p q ≡ Some r → IsPoly r
  pub one_less : (p : Polynomial) → IsPoly p → IsPoly (one_less p)

-- each polynomial is at most itself, and at most what one above it is at most; two that are at most each other are one
pub record ComparisonOrders : Type 0 where
  pub reflexive : (p : Polynomial) → IsTrue (is_at_most p p)
  pub transitive :
      (p q r : Polynomial) → IsTrue (is_at_most p q) → IsTrue (is_at_most q r) → IsTrue (is_at_most p r)
  pub antisymmetric :
      (p q : Polynomial) → IsPoly p → IsPoly q → IsTrue (is_at_most p q) → IsTrue (is_at_most q p) → p ≡ q

-- both are at most their join, which is at most what both are at most
pub record JoinIsLeast : Type 0 where
  pub left : (p q r : Polynomial) → join p q ≡ Some r → IsTrue (is_at_most p r)
  pub right : (p q r : Polynomial) → join p q ≡ Some r → IsTrue (is_at_most q r)
  pub least :
      (p q r s : Polynomial)
      → join p q ≡ Some r → IsTrue (is_at_most p s) → IsTrue (is_at_most q s) → IsTrue (is_at_most r s)

-- a text is that of one polynomial
abbrev pub OneText : Type 0
OneText = (p q : Polynomial) → IsPoly p → IsPoly q → text p ≡ text q → p ≡ q
