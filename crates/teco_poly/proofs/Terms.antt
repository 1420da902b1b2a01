-- What stands at the front of a text: a term, and no other.
use Rattle.teco_poly.proofs.Prelude.{◌≡◌, ℕ, zero, suc, ◌<◌, true, false, List, [], ◌∷◌, ◌++◌, length, take, drop, sym}
use Rattle.teco_poly.proofs.Prelude.{ap, ◌∙◌, refl, subst, arith, append_assoc, lit<, decimal_injective}
use Rattle.teco_poly.proofs.Prelude.{drop-append_seam, is_ascii_digit, pointwise, decimal, nat_eq, codes, EndsNumber}
use Rattle.teco_poly.proofs.Prelude.{EndsTerm, IsCoefficientAt, IsTermAt, IsLedTermAt, IsNextAt, power_text}
use Rattle.teco_poly.proofs.Prelude.{coefficient_text}
use Rattle.teco_poly.proofs.Digits.{decimal_digits}
use Rattle.teco_poly.proofs.Front.{digits_front, stripped, no_prefix, one_coefficient, one_factor, constant}
use Rattle.teco_poly.proofs.Front.{read_written}

-- a term ends before a space, which is no digit, and a power begins with N
term_ends_number : (rest : List ℕ) → EndsTerm rest → EndsNumber rest
term_ends_number [] ends = tt
term_ends_number (c ∷ rest) ends = ap is_ascii_digit ends

power_ends_number : (k : ℕ) (rest : List ℕ) → EndsNumber (power_text (suc k) ++ rest)
power_ends_number zero rest = refl
power_ends_number (suc k) rest = refl

-- the coefficient of a term, and then its power
pub term_coefficient : (text : List ℕ) (power c : ℕ) (rest : List ℕ) → IsTermAt text power c rest
    → IsCoefficientAt text power c (power_text power ++ rest)
term_coefficient text zero c rest p = record {
  small = p.small;
  spelled = p.spelled ∙ append_assoc (decimal c) [] rest;
  ends = term_ends_number rest p.ends;
}
term_coefficient text (suc k) c rest p = record {
  small = p.small;
  spelled = p.spelled ∙ append_assoc (coefficient_text c (suc k)) (power_text (suc k)) rest;
  ends = λ one. power_ends_number k rest;
}

pub power_stripped : (power : ℕ) (prefix behind rest : List ℕ) → prefix ≡ power_text power
    → pointwise nat_eq (take (length prefix) behind) prefix ≡ true → rest ≡ drop (length prefix) behind
    → behind ≡ power_text power ++ rest
power_stripped power prefix behind rest is same e = stripped prefix behind rest same e ∙ ap (λ front. front ++ rest) is

-- a coefficient that is read, and the power behind it
module _ (text : List ℕ) (power n : ℕ) (behind : List ℕ) (read : IsCoefficientAt text power n behind) where
  pub power_refused : (prefix : List ℕ) → prefix ≡ power_text power
      → pointwise nat_eq (take (length prefix) behind) prefix ≡ false → (c : ℕ) (rest : List ℕ)
      → IsTermAt text power c rest → ⊥
  power_refused prefix is other c rest p =
      let same = one_coefficient text power n c behind (power_text power ++ rest) read
      (term_coefficient text power c rest p) in
      no_prefix prefix behind rest other (same.1 ∙ ap (λ front. front ++ rest) (sym is))

  pub term_refused : (x : List ℕ) → behind ≡ power_text power ++ x → (0 < n → EndsTerm x → ⊥) → (c : ℕ) (rest : List ℕ)
      → IsTermAt text power c rest → ⊥
  term_refused x e refused c rest p =
      let same = one_coefficient text power n c behind (power_text power ++ rest) read
      (term_coefficient text power c rest p) in
      let is : rest ≡ x =
      sym (drop-append_seam (power_text power) rest) ∙ ap (drop (length (power_text power))) (sym same.1 ∙ e)
      ∙ drop-append_seam (power_text power) x
      in
      refused (subst (λ m. 0 < m) (sym same.0) p.some) (subst EndsTerm is p.ends)

  pub term_read : (x : List ℕ) → behind ≡ power_text power ++ x → 0 < n → EndsTerm x → IsTermAt text power n x
  term_read x e some ends = record {
    some = some;
    small = read.small;
    spelled = read.spelled ∙ ap (λ b. coefficient_text n power ++ b) e
        ∙ sym (append_assoc (coefficient_text n power) (power_text power) x);
    ends = ends;
  }

-- what leads a term, stripped
module _ (text lead led : List ℕ) (power : ℕ) where
  pub led_found : pointwise nat_eq (take (length lead) text) lead ≡ true → led ≡ drop (length lead) text
      → (c : ℕ) (rest : List ℕ) → IsTermAt led power c rest → IsLedTermAt text lead power c rest
  led_found same e c rest p = (led, stripped lead text led same e, p)

  pub led_refused : pointwise nat_eq (take (length lead) text) lead ≡ true → led ≡ drop (length lead) text
      → ((c : ℕ) (rest : List ℕ) → IsTermAt led power c rest → ⊥) → (c : ℕ) (rest : List ℕ)
      → IsLedTermAt text lead power c rest → ⊥
  led_refused same e refused c rest p =
      let is : p.0 ≡ led = sym (drop-append_seam lead p.0) ∙ ap (drop (length lead)) (sym p.1) ∙ sym e in
      refused c rest (subst (λ x. IsTermAt x power c rest) is p.2)

pub lead_missing : (text lead : List ℕ) (power : ℕ) → pointwise nat_eq (take (length lead) text) lead ≡ false
    → (c : ℕ) (rest : List ℕ) → IsLedTermAt text lead power c rest → ⊥
lead_missing text lead power other c rest p = no_prefix lead text p.0 other p.1

-- a term that is found is the next
pub next_found : (text lead next : List ℕ) (power c : ℕ) (rest : List ℕ) → next ≡ codes " + "
    → IsLedTermAt text lead power c rest → IsNextAt text lead power c rest next
next_found text lead next power zero rest e p = let some = p.2.some in absurd (omega arith)
next_found text lead next power (suc c) rest e p = (e, p)

-- a caret and a star end no term
no_space : (b : ℕ) (x rest : List ℕ) → (b ≡ 32 → ⊥) → x ≡ b ∷ rest → EndsTerm x → ⊥
no_space b x rest other e ends = other (subst EndsTerm e ends)

not_space : (b : ℕ) → 32 < b → b ≡ 32 → ⊥
not_space b more e = omega arith

-- one term stands at the front of a text
power_front : (j k : ℕ) (x y : List ℕ) → j < 9 → k < 9 → EndsTerm x → EndsTerm y
    → power_text (suc j) ++ x ≡ power_text (suc k) ++ y → (j ≡ k) × (x ≡ y)
power_front zero zero x y small_j small_k ends_x ends_y e = (refl, cc)
power_front zero (suc k) x y small_j small_k ends_x ends_y e =
    absurd (no_space 94 x (decimal (suc (suc k)) ++ y) (not_space 94 (lit< tt))
    (let tail : x ≡ 94 ∷ (decimal (suc (suc k)) ++ y) = (cc) in tail) ends_x)
power_front (suc j) zero x y small_j small_k ends_x ends_y e =
    absurd (no_space 94 y (decimal (suc (suc j)) ++ x) (not_space 94 (lit< tt))
    (let tail : y ≡ 94 ∷ (decimal (suc (suc j)) ++ x) = (cc) in tail) ends_y)
power_front (suc j) (suc k) x y small_j small_k ends_x ends_y e =
    let tails : decimal (suc (suc j)) ++ x ≡ decimal (suc (suc k)) ++ y = (cc) in
    let parted = digits_front (decimal (suc (suc j))) (decimal (suc (suc k))) x y
    (decimal_digits (suc (suc j)) (omega arith)) (decimal_digits (suc (suc k)) (omega arith))
    (term_ends_number x ends_x) (term_ends_number y ends_y) tails in
    let same = decimal_injective (suc (suc j)) (suc (suc k)) (omega arith) (omega arith) parted.0 in
    (omega (arith, same), parted.1)

-- the constant is no term of another power
constant_alone : (text : List ℕ) (k c d : ℕ) (x y : List ℕ) → IsTermAt text 0 c x → IsTermAt text (suc k) d y → ⊥
constant_alone text k c d x y p q =
    let number = constant text c x (term_coefficient text 0 c x p) in
    let is = read_written text k c d x (power_text (suc k) ++ y) number (term_coefficient text (suc k) d y q) in
    no_space 42 x (power_text (suc k) ++ y) (not_space 42 (lit< tt)) is.2 p.ends

pub one_term : (text : List ℕ) (j k c d : ℕ) (x y : List ℕ) → j < 9 → k < 9 → IsTermAt text j c x → IsTermAt text k d y
    → (c ≡ d) × (j ≡ k) × (x ≡ y)
one_term text zero zero c d x y small_j small_k p q =
    let same = one_coefficient text 0 c d x y (term_coefficient text 0 c x p) (term_coefficient text 0 d y q) in
    (same.0, refl, same.1)
one_term text zero (suc k) c d x y small_j small_k p q = absurd (constant_alone text k c d x y p q)
one_term text (suc j) zero c d x y small_j small_k p q = absurd (constant_alone text j d c y x q p)
one_term text (suc j) (suc k) c d x y small_j small_k p q =
    let first = term_coefficient text (suc j) c x p in
    let second = term_coefficient text (suc k) d y q in
    let same = one_factor text j c d (power_text (suc j) ++ x) (power_text (suc k) ++ y) first
    (record { small = second.small; spelled = second.spelled; ends = second.ends }) in
    let parted = power_front j k x y (omega arith) (omega arith) p.ends q.ends same.1 in
    (same.0, ap suc parted.0, parted.1)
