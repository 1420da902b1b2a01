-- A polynomial in N is the list of its coefficients: that of the constant, that of N, that of N^2 and so on. Behind the
-- end of the list each coefficient is 0.
use Rattle.std.specs.Prelude.{ℕ, zero, suc, ◌+◌, ◌<◌, ◌≤◌, ◌-◌, ◌*◌, ◌^◌, max, Bool, true, ◌&&◌, ◌==◌, nat_lt, nat_le}
use Rattle.std.specs.Prelude.{if◌then◌else◌, List, [], ◌∷◌, drop, Option, Some, None}
use Rattle.std.specs.List.{list_all}
use Rattle.teco_poly.specs.declared.coefficients.TheConstants.{COEFFICIENTS}

abbrev pub Polynomial : Type 0
Polynomial = List ℕ

-- the value at n is the sum of the terms, each a coefficient times a power of n
abbrev pub value_from : ℕ → Polynomial → ℕ → ℕ
value_from power [] n = 0
value_from power (c ∷ p) n = c * n ^ power + value_from (suc power) p n

abbrev pub value : Polynomial → ℕ → ℕ
value p n = value_from 0 p n

-- the sum: at each power the sum of the coefficients
abbrev pub sum : Polynomial → Polynomial → Polynomial
sum [] q = q
sum (a ∷ p) [] = a ∷ p
sum (a ∷ p) (b ∷ q) = (a + b) ∷ sum p q

-- the product with a number, and that with N
abbrev pub scaled : ℕ → Polynomial → Polynomial
scaled a [] = []
scaled a (b ∷ q) = (a * b) ∷ scaled a q

abbrev pub raised : Polynomial → Polynomial
raised p = 0 ∷ p

-- the product: (a + N * p) * q is a * q + N * (p * q)
abbrev pub product : Polynomial → Polynomial → Polynomial
product [] q = []
product (a ∷ p) q = sum (scaled a q) (raised (product p q))

-- at each power the greater coefficient
abbrev pub greater : Polynomial → Polynomial → Polynomial
greater [] q = q
greater (a ∷ p) [] = a ∷ p
greater (a ∷ p) (b ∷ q) = max a b ∷ greater p q

-- at each power the difference of the coefficients
abbrev pub differences : Polynomial → Polynomial → Polynomial
differences [] q = []
differences (a ∷ p) [] = a ∷ p
differences (a ∷ p) (b ∷ q) = (a - b) ∷ differences p q

-- the constant lowered by 1, where it is at least 1
abbrev pub one_less : Polynomial → Polynomial
one_less [] = []
one_less (c ∷ p) = (c - 1) ∷ p

-- at no power is the coefficient of the first above that of the second
abbrev pub is_at_most : Polynomial → Polynomial → Bool
is_at_most [] q = true
is_at_most (a ∷ p) [] = a == 0 && is_at_most p []
is_at_most (a ∷ p) (b ∷ q) = nat_le a b && is_at_most p q

-- the first coefficients, as many as are wanted
abbrev pub first : ℕ → Polynomial → Polynomial
first zero p = []
first (suc count) [] = 0 ∷ first count []
first (suc count) (c ∷ p) = c ∷ first count p

-- a number that 64 bits hold
abbrev pub in_64_bits : ℕ → Bool
in_64_bits n = nat_lt n (2 ^ 64)

-- 64 bits hold each coefficient, and the degree is at most 8: behind nine coefficients there is none but 0
abbrev pub fits : Polynomial → Bool
fits p = list_all in_64_bits p && list_all (λ c. c == 0) (drop COEFFICIENTS p)

-- a polynomial with nine coefficients, if they suffice
abbrev pub fitted : Polynomial → Option Polynomial
fitted p = if fits p then Some (first COEFFICIENTS p) else None

-- what the calls answer: none exactly where a coefficient or the value passes 64 bits or the degree passes 8
abbrev pub add : Polynomial → Polynomial → Option Polynomial
add p q = fitted (sum p q)

abbrev pub mul : Polynomial → Polynomial → Option Polynomial
mul p q = fitted (product p q)

abbrev pub join : Polynomial → Polynomial → Option Polynomial
join p q = fitted (greater p q)

abbrev pub sub : Polynomial → Polynomial → Option Polynomial
sub p q = if is_at_most q p then Some (differences p q) else None

abbrev pub at : Polynomial → ℕ → Option ℕ
at p n = if in_64_bits (value p n) then Some (value p n) else None

-- the polynomials that are a number, and N
abbrev pub number : ℕ → Polynomial
number n = first COEFFICIENTS (n ∷ [])

abbrev pub variable : Polynomial
variable = first COEFFICIENTS (0 ∷ 1 ∷ [])

-- the greatest number of 64 bits at which the value is at most a bound: it is above the bound at each greater one
pub record IsGreatest (p : Polynomial) (bound n : ℕ) : Type 0 where
  pub fits : n < 2 ^ 64
  pub within : value p n ≤ bound
  pub above : (m : ℕ) → n < m → m < 2 ^ 64 → bound < value p m
