-- The values of polynomials: of sums, products and the like, and of those that are at most others.
use Rattle.teco_poly.proofs.Prelude.{◌≡◌, ℕ, zero, suc, ◌+◌, ◌-◌, ◌*◌, ◌≤◌, [], ◌∷◌, get_or, drop, Some, sym, ap, ◌∙◌}
use Rattle.teco_poly.proofs.Prelude.{refl, arith, pow-suc, pow-zero, Polynomial, value, sum, scaled, raised, product}
use Rattle.teco_poly.proofs.Prelude.{differences, one_less, fitted}
use Rattle.std.proofs.Math.Nat.{mul-le-mul, mul-le-mul_left}
use Rattle.teco_poly.specs.Polynomial.{value_from}
use Rattle.teco_poly.proofs.Fitting.{fitted_like}

-- with one power more each term is n times as large
value_from-suc : (k : ℕ) (p : Polynomial) (n : ℕ) → value_from (suc k) p n ≡ n * value_from k p n
value_from-suc k [] n = omega arith
value_from-suc k (c ∷ p) n = omega (arith, ap (λ m. c * m) (pow-suc n k), value_from-suc (suc k) p n)

-- the value from the constant on: c + N * p
pub value-cons : (c : ℕ) (p : Polynomial) (n : ℕ) → value (c ∷ p) n ≡ c + n * value p n
value-cons c p n = omega (arith, value_from-suc 0 p n, ap (λ m. c * m) (pow-zero n))

-- what is added, scaled, raised and multiplied
pub value-sum : (p q : Polynomial) (n : ℕ) → value (sum p q) n ≡ value p n + value q n
value-sum [] q n = omega arith
value-sum (a ∷ p) [] n = omega arith
value-sum (a ∷ p) (b ∷ q) n =
    value-cons (a + b) (sum p q) n ∙ ap (λ v. a + b + n * v) (value-sum p q n) ∙ omega (
      arith,
      value-cons a p n,
      value-cons b q n,
    )

value-scaled : (a : ℕ) (q : Polynomial) (n : ℕ) → value (scaled a q) n ≡ a * value q n
value-scaled a [] n = omega arith
value-scaled a (b ∷ q) n =
    value-cons (a * b) (scaled a q) n ∙ ap (λ v. a * b + n * v) (value-scaled a q n)
    ∙ omega (arith, ap (λ v. a * v) (value-cons b q n))

pub value-product : (p q : Polynomial) (n : ℕ) → value (product p q) n ≡ value p n * value q n
value-product [] q n = omega arith
value-product (a ∷ p) q n =
    value-sum (scaled a q) (raised (product p q)) n
    ∙ omega (
      arith,
      value-scaled a q n,
      value-cons 0 (product p q) n,
      ap (λ v. n * v) (value-product p q n),
      ap (λ v. v * value q n) (value-cons a p n),
    )

-- polynomials with the same coefficients have the same values
value_zero : (p : Polynomial) (n : ℕ) → ((k : ℕ) → get_or p k 0 ≡ 0) → value p n ≡ 0
value_zero [] n each = refl
value_zero (c ∷ p) n each = omega (
  arith,
  value-cons c p n,
  each 0,
  ap (λ v. n * v) (value_zero p n (λ k. each (suc k))),
)

pub value_same : (p q : Polynomial) (n : ℕ) → ((k : ℕ) → get_or p k 0 ≡ get_or q k 0) → value p n ≡ value q n
value_same [] q n same = sym (value_zero q n (λ k. sym (same k)))
value_same (a ∷ p) [] n same = value_zero (a ∷ p) n same
value_same (a ∷ p) (b ∷ q) n same =
    omega (arith, value-cons a p n, value-cons b q n, same 0, ap (λ v. n * v) (value_same p q n (λ k. same (suc k))))

-- a polynomial that is at most another has no greater value
pub value_at_most : (p q : Polynomial) (n : ℕ) → ((k : ℕ) → get_or p k 0 ≤ get_or q k 0) → value p n ≤ value q n
value_at_most [] q n below = omega arith
value_at_most (a ∷ p) [] n below = let none : value (a ∷ p) n ≡ 0 =
    value_zero (a ∷ p) n (λ k. omega (arith, below k)) in omega arith
value_at_most (a ∷ p) (b ∷ q) n below =
    omega (
      arith,
      value-cons a p n,
      value-cons b q n,
      below 0,
      mul-le-mul_left n (value_at_most p q n (λ k. below (suc k))),
    )

-- values grow with N
pub value_grows : (p : Polynomial) (m n : ℕ) → m ≤ n → value p m ≤ value p n
value_grows [] m n more = omega arith
value_grows (c ∷ p) m n more = omega (
  arith,
  value-cons c p m,
  value-cons c p n,
  mul-le-mul more (value_grows p m n more),
)

-- a difference and what was taken away are the whole
pub value-differences : (p q : Polynomial) (n : ℕ) → ((k : ℕ) → get_or q k 0 ≤ get_or p k 0)
    → value (differences p q) n + value q n ≡ value p n
value-differences [] q n below = let none : value q n ≡ 0 = value_zero q n (λ k. omega (arith, below k)) in omega arith
value-differences (a ∷ p) [] n below = omega arith
value-differences (a ∷ p) (b ∷ q) n below =
    omega (
      arith,
      value-cons (a - b) (differences p q) n,
      value-cons a p n,
      value-cons b q n,
      below 0,
      ap (λ v. n * v) (value-differences p q n (λ k. below (suc k))),
    )

pub value-one_less : (p : Polynomial) (n : ℕ) → value p n ≤ value (one_less p) n + 1
value-one_less [] n = omega arith
value-one_less (c ∷ p) n = omega (arith, value-cons c p n, value-cons (c - 1) p n)

-- what was fitted has the values that it had
pub value-fitted : (p r : Polynomial) (n : ℕ) → fitted p ≡ Some r → value r n ≡ value p n
value-fitted p r n e = value_same r p n (fitted_like p r (sym e)).2

-- from a power on the value is no greater than the whole
pub value-drop : (i : ℕ) (p : Polynomial) (n : ℕ) → 1 ≤ n → value (drop i p) n ≤ value p n
value-drop zero p n some = omega arith
value-drop (suc i) [] n some = omega arith
value-drop (suc i) (c ∷ p) n some =
    omega (arith, value-cons c p n, value-drop i p n some, mul-le-mul_left (value p n) some)
