-- A quotient of 32-bit numbers, in_32_bits by way of its bits.
use Rattle.std.proofs.Common.{◌≡◌, ◌≢◌, ℕ, zero, suc, ◌-◌, ◌%◌, ◌^◌, ◌≤◌, ℤ, pos, negsuc, neg_ℤ, Some, FitsSigned}
use Rattle.std.proofs.Common.{int_div, unsigned_abs, ap, refl, ◌∙◌, arith}
use Rattle.std.proofs.Math.Nat.{div-le_self}
use Rattle.std.proofs.lemmas.Int.{to_z-of_z}
use Rattle.std.specs.Int.{w32, int_wrap, int_wrapping_div, cast_signed, cast_unsigned}
use Rattle.teco_base.specs.Arithmetic as number

-- what a number leaves in 32 bits is what its bits say, if it is near
pub wrapped_bits : (z : ℤ) → unsigned_abs z ≤ 2 ^ 31 → cast_signed w32 (cast_unsigned w32 z) ≡ int_wrap w32 z
unfolding int_wrap
wrapped_bits (pos n) near = let e : n ≡ n % 2 ^ 32 = omega arith in ap (cast_signed w32) e
wrapped_bits (negsuc n) near = let e : 2 ^ 32 - suc n ≡ 2 ^ 32 - 1 - n % 2 ^ 32 = omega arith in ap (cast_signed w32) e

abs-neg : (n : ℕ) → unsigned_abs (neg_ℤ (pos n)) ≡ n
abs-neg zero = refl
abs-neg (suc n) = refl

near_abs : (x : ℤ) → FitsSigned w32 x → unsigned_abs x ≤ 2 ^ 31
near_abs (pos n) fits = omega arith
near_abs (negsuc n) fits = omega arith

-- the quotient of a near number is near
near_quotient : (x y : ℤ) → unsigned_abs x ≤ 2 ^ 31 → unsigned_abs (int_div x y) ≤ 2 ^ 31
near_quotient (pos a) (pos b) near = omega (arith, div-le_self a b)
near_quotient (pos a) (negsuc b) near = rw abs-neg (omega (arith, div-le_self a (suc b)))
near_quotient (negsuc a) (pos b) near = rw abs-neg (omega (arith, div-le_self (suc a) b))
near_quotient (negsuc a) (negsuc b) near = omega (arith, div-le_self (suc a) (suc b))

-- a quotient by way of its bits is that of the definition
pub div-bits : (x y : ℤ) → FitsSigned w32 x → y ≢ pos 0
    → Some (cast_signed w32 (cast_unsigned w32 (int_div x y))) ≡ number.div x y
div-bits x (pos zero) fits nonzero = absurd (nonzero refl)
div-bits x (pos (suc n)) fits nonzero =
    ap Some (wrapped_bits (int_div x (pos (suc n))) (near_quotient x (pos (suc n)) (near_abs x fits)))
div-bits x (negsuc n) fits nonzero =
    ap Some (wrapped_bits (int_div x (negsuc n)) (near_quotient x (negsuc n) (near_abs x fits)))

-- the same of numbers as the code has them
pub div_code : (x y r : ℤ) → FitsSigned w32 x → FitsSigned w32 y → FitsSigned w32 r → (cast_unsigned w32 y ≡ 0 → ⊥)
    → r ≡ int_wrapping_div w32 (cast_signed w32 (cast_unsigned w32 x)) (cast_signed w32 (cast_unsigned w32 y))
    → Some (cast_signed w32 (cast_unsigned w32 r)) ≡ number.div x y
div_code x y r fx fy fr nonzero e =
    let plain = rw (to_z-of_z w32 x fx, to_z-of_z w32 y fy) at e in
    ap Some (to_z-of_z w32 r fr ∙ plain)
    ∙ div-bits x y fx (λ zero_divisor. nonzero (ap (cast_unsigned w32) zero_divisor))
