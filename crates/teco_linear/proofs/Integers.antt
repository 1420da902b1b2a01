-- Laws of whole numbers.
use Rattle.teco_linear.proofs.Prelude.{◌≡◌, ℕ, ◌*◌, ◌^◌, ℤ, pos, negsuc, neg_ℤ, ◌+ℤ◌, ◌*ℤ◌, ◌≤ℤ◌, sym, ap, ◌∙◌, arith}
use Rattle.teco_linear.proofs.Prelude.{ints, *ℤ_comm, zero-*ℤ, pow-zero}
use Rattle.std.proofs.Common.{to_z, of_z}
use mir.Syntax.{w128}
use Rattle.std.proofs.Math.IntN.{one, *ℤ-one}
use borrow.Author.Differences.{up, down, same_in, product_is, sum_is_lem}

-- a number as it is passed to a call
abbrev pub passed : ℤ → ℤ
passed z = to_z w128 (of_z w128 z)

pub *ℤ-+ℤ : (a b c : ℤ) → a *ℤ (b +ℤ c) ≡ a *ℤ b +ℤ a *ℤ c
*ℤ-+ℤ a b c =
    same_in _ _ (omega (arith, ints, ap (λ m. up a * m) (sum_is_lem b c), ap (λ m. down a * m) (sum_is_lem b c)))

pub +ℤ-*ℤ : (a b c : ℤ) → (a +ℤ b) *ℤ c ≡ a *ℤ c +ℤ b *ℤ c
+ℤ-*ℤ a b c =
    same_in _ _ (omega (arith, ints, ap (λ m. up c * m) (sum_is_lem a b), ap (λ m. down c * m) (sum_is_lem a b)))

pub *ℤ_assoc : (a b c : ℤ) → (a *ℤ b) *ℤ c ≡ a *ℤ (b *ℤ c)
*ℤ_assoc a b c =
    same_in _ _
    (omega (
      arith,
      ints,
      ap (λ m. up c * m) (product_is a b).0,
      ap (λ m. down c * m) (product_is a b).1,
      ap (λ m. up c * m) (product_is a b).1,
      ap (λ m. down c * m) (product_is a b).0,
      ap (λ m. up a * m) (product_is b c).0,
      ap (λ m. down a * m) (product_is b c).1,
      ap (λ m. up a * m) (product_is b c).1,
      ap (λ m. down a * m) (product_is b c).0,
    ))

pub *ℤ-1 : (z : ℤ) → z *ℤ pos 1 ≡ z
unfolding one
*ℤ-1 z = *ℤ-one z

pub one-*ℤ : (z : ℤ) → pos 1 *ℤ z ≡ z
one-*ℤ z = *ℤ_comm (pos 1) z ∙ *ℤ-1 z

-- the factors of a term and of what it is multiplied by, in another order
pub factors : (t k a b s : ℤ) → (t *ℤ k) *ℤ ((a *ℤ b) *ℤ s) ≡ (k *ℤ b) *ℤ (t *ℤ (a *ℤ s))
factors t k a b s =
    ap (λ x. (t *ℤ k) *ℤ (x *ℤ s)) (*ℤ_comm a b) ∙ ap (λ x. (t *ℤ k) *ℤ x) (*ℤ_assoc b a s)
    ∙ sym (*ℤ_assoc (t *ℤ k) b (a *ℤ s)) ∙ ap (λ x. x *ℤ (a *ℤ s)) (*ℤ_assoc t k b)
    ∙ ap (λ x. x *ℤ (a *ℤ s)) (*ℤ_comm t (k *ℤ b)) ∙ *ℤ_assoc (k *ℤ b) t (a *ℤ s)

-- a product of two numbers that are at least 0
pub not_negative_times : (a b : ℤ) → pos 0 ≤ℤ a → pos 0 ≤ℤ b → pos 0 ≤ℤ (a *ℤ b)
not_negative_times (pos a) (pos b) h p = omega (arith, ints)
not_negative_times (pos a) (negsuc b) h p = absurd (omega (arith, ints, p))
not_negative_times (negsuc a) b h p = absurd (omega (arith, ints, h))

pub neg-*ℤ : (a b : ℤ) → neg_ℤ a *ℤ b ≡ neg_ℤ (a *ℤ b)
neg-*ℤ a b =
    let none : (neg_ℤ a +ℤ a) *ℤ b ≡ pos 0 =
    let e : neg_ℤ a +ℤ a ≡ pos 0 = omega (arith, ints) in ap (λ x. x *ℤ b) e ∙ zero-*ℤ b in
    omega (arith, ints, +ℤ-*ℤ (neg_ℤ a) a b)

pub times_power_0 : (k : ℤ) (n : ℕ) → k *ℤ pos (n ^ 0) ≡ k
times_power_0 k n = let e : n ^ 0 ≡ 1 = pow-zero n in ap (λ x. k *ℤ pos x) e ∙ *ℤ-1 k
