-- What stands at the front of a text: digits, a prefix, a number, the coefficient of a term.
use Rattle.teco_poly.proofs.Prelude.{◌≡◌, ℕ, zero, suc, ◌+◌, ◌^◌, ◌<◌, Bool, true, false, List, [], ◌∷◌, ◌++◌, length}
use Rattle.teco_poly.proofs.Prelude.{take, drop, sym, ap, ◌∙◌, refl, subst, arith, append_assoc, eq-eqb, ne_eqb}
use Rattle.teco_poly.proofs.Prelude.{eqb-false, Decides-eqb, decimal_injective, decimal_nonempty, is_ascii_digit}
use Rattle.teco_poly.proofs.Prelude.{pointwise, decimal, ◌==◌, ◌&&◌, nat_eq, all_ascii_digits, EndsNumber, IsNumberAt}
use Rattle.teco_poly.proofs.Prelude.{IsCoefficientAt, coefficient_text}
use Rattle.std.proofs.lemmas.List.{take-append-drop}
use Rattle.std.proofs.Math.Seq.{take-append_seam}
use Rattle.std.specs.Cmp.Lexicographic.{same_text, other_text}
use Rattle.std.specs.List.{prefix_len}
use Rattle.teco_poly.proofs.Digits.{decimal_digits}

both : (a b : Bool) → (a && b) ≡ true → (a ≡ true) × (b ≡ true)
both true b h = (refl, h)
both false b h = absurd (cc)

-- the digits at the front, and what ends them
pub digits_before : (text : List ℕ) → all_ascii_digits (take (prefix_len is_ascii_digit text) text) ≡ true
digits_before [] = refl
digits_before (c ∷ text) = by_test (is_ascii_digit c) refl (digits_before text)
  where
    by_test : (b : Bool) → is_ascii_digit c ≡ b → all_ascii_digits (take (prefix_len is_ascii_digit text) text) ≡ true
        → all_ascii_digits (take (prefix_len is_ascii_digit (c ∷ text)) (c ∷ text)) ≡ true
    by_test true e others = let more : 1 + prefix_len is_ascii_digit text ≡ suc (prefix_len is_ascii_digit text) =
        omega arith in rw (e, more, e) others
    by_test false e others = rw e refl

pub ends_after : (text : List ℕ) → EndsNumber (drop (prefix_len is_ascii_digit text) text)
ends_after [] = tt
ends_after (c ∷ text) = by_test (is_ascii_digit c) refl (ends_after text)
  where
    by_test : (b : Bool) → is_ascii_digit c ≡ b → EndsNumber (drop (prefix_len is_ascii_digit text) text)
        → EndsNumber (drop (prefix_len is_ascii_digit (c ∷ text)) (c ∷ text))
    by_test true e others = let more : 1 + prefix_len is_ascii_digit text ≡ suc (prefix_len is_ascii_digit text) =
        omega arith in rw (e, more) others
    by_test false e others = rw e e

-- digits and what ends them are parted in one way
pub digits_front : (ds es x y : List ℕ) → all_ascii_digits ds ≡ true → all_ascii_digits es ≡ true → EndsNumber x
    → EndsNumber y → ds ++ x ≡ es ++ y → (ds ≡ es) × (x ≡ y)
digits_front [] [] x y each_d each_e ends_x ends_y e = (refl, e)
digits_front [] (d ∷ es) x y each_d each_e ends_x ends_y e =
    let ends : is_ascii_digit d ≡ false = subst EndsNumber e ends_x in
    let digit = (both (is_ascii_digit d) (all_ascii_digits es) each_e).0 in absurd (cc)
digits_front (d ∷ ds) [] x y each_d each_e ends_x ends_y e =
    let ends : is_ascii_digit d ≡ false = subst EndsNumber (sym e) ends_y in
    let digit = (both (is_ascii_digit d) (all_ascii_digits ds) each_d).0 in absurd (cc)
digits_front (d ∷ ds) (f ∷ es) x y each_d each_e ends_x ends_y e =
    let tails : ds ++ x ≡ es ++ y = (cc) in
    let heads : d ≡ f = (cc) in
    let parted = digits_front ds es x y (both (is_ascii_digit d) (all_ascii_digits ds) each_d).1
    (both (is_ascii_digit f) (all_ascii_digits es) each_e).1 ends_x ends_y tails in
    let same : ds ≡ es = parted.0 in
    (cc, parted.1)

-- a prefix that is stripped, and one that is not there
pub stripped : (prefix text rest : List ℕ) → pointwise nat_eq (take (length prefix) text) prefix ≡ true
    → rest ≡ drop (length prefix) text → text ≡ prefix ++ rest
stripped prefix text rest same is =
    sym (take-append-drop (length prefix) text) ∙ ap (λ front. front ++ drop (length prefix) text)
    (same_text (take (length prefix) text) prefix (sym same)) ∙ ap (λ x. prefix ++ x) (sym is)

pub no_prefix : (prefix text rest : List ℕ) → pointwise nat_eq (take (length prefix) text) prefix ≡ false
    → text ≡ prefix ++ rest → ⊥
no_prefix prefix text rest other e =
    other_text (take (length prefix) text) prefix (sym other)
    (ap (take (length prefix)) e ∙ take-append_seam prefix rest)

-- one number stands at the front of a text
pub one_number : (text : List ℕ) (m n : ℕ) (x y : List ℕ) → IsNumberAt text m x → IsNumberAt text n y
    → (m ≡ n) × (x ≡ y)
one_number text m n x y p q =
    let parted = digits_front (decimal m) (decimal n) x y (decimal_digits m p.small)
    (decimal_digits n q.small) p.ends q.ends (sym p.spelled ∙ q.spelled) in
    (decimal_injective m n p.small q.small parted.0, parted.1)

-- what is read is a number, and there is none where the digits are the text of none
pub number_read : (text digits rest : List ℕ) (n count : ℕ) → count ≡ prefix_len is_ascii_digit text
    → digits ≡ take count text → rest ≡ drop count text → n < 2 ^ 64 → digits ≡ decimal n → IsNumberAt text n rest
number_read text digits rest n count is front back small e = record {
  small = small;
  spelled = sym (take-append-drop count text) ∙ ap (λ x. x ++ drop count text) (sym front ∙ e)
      ∙ ap (λ x. decimal n ++ x) (sym back);
  ends = subst EndsNumber (sym (back ∙ ap (λ k. drop k text) is)) (ends_after text);
}

pub number_digits : (text digits : List ℕ) (count : ℕ) → count ≡ prefix_len is_ascii_digit text
    → digits ≡ take count text → all_ascii_digits digits ≡ true
number_digits text digits count is front = ap all_ascii_digits (front ∙ ap (λ k. take k text) is) ∙ digits_before text

pub number_refused : (text digits rest : List ℕ) (count : ℕ) → count ≡ prefix_len is_ascii_digit text
    → digits ≡ take count text → rest ≡ drop count text → ((n : ℕ) → n < 2 ^ 64 → digits ≡ decimal n → ⊥)
    → (n : ℕ) (x : List ℕ) → IsNumberAt text n x → ⊥
number_refused text digits rest count is front back refused n x p =
    refused n p.small (digits_front digits (decimal n) rest x (number_digits text digits count is front)
    (decimal_digits n p.small) (subst EndsNumber (sym (back ∙ ap (λ k. drop k text) is)) (ends_after text)) p.ends
    (ap (λ d. d ++ rest) front ∙ ap (λ r. take count text ++ r) back ∙ take-append-drop count text ∙ p.spelled)).0

-- a term of a power above 0 begins with its coefficient and `*`, or with N
module _ (text : List ℕ) (k c : ℕ) (rest : List ℕ) (p : IsCoefficientAt text (suc k) c rest) where
  pub not_written : c ≡ 1 → (text ≡ rest) × EndsNumber text
  not_written one =
      let none : coefficient_text c (suc k) ≡ [] = (rw (eq-eqb c 1 one) refl) in
      let is : text ≡ rest = p.spelled ∙ ap (λ front. front ++ rest) none in
      (is, subst EndsNumber (sym is) (p.ends one))

  pub written : (c ≡ 1 → ⊥) → IsNumberAt text c (42 ∷ rest)
  written other =
      let some : coefficient_text c (suc k) ≡ decimal c ++ 42 ∷ [] = (rw (ne_eqb c 1 other) refl) in
      record {
        small = p.small;
        spelled = p.spelled ∙ ap (λ front. front ++ rest) some ∙ append_assoc (decimal c) (42 ∷ []) rest;
        ends = refl;
      }

-- a number does not end at its front
pub number_begins : (text : List ℕ) (n : ℕ) (rest : List ℕ) → IsNumberAt text n rest → EndsNumber text → ⊥
number_begins text n rest p ends =
    let parted = digits_front [] (decimal n) text rest refl (decimal_digits n p.small) ends p.ends p.spelled in
    omega (arith, decimal_nonempty n p.small, ap length parted.0)

-- one coefficient stands at the front of a text
pub one_factor : (text : List ℕ) (k c d : ℕ) (x y : List ℕ) → IsCoefficientAt text (suc k) c x
    → IsCoefficientAt text (suc k) d y → (c ≡ d) × (x ≡ y)
one_factor text k c d x y p q = by_tests (c == 1) (d == 1) refl refl
  where
    by_tests : (a b : Bool) → (c == 1) ≡ a → (d == 1) ≡ b → (c ≡ d) × (x ≡ y)
    by_tests true true e f =
        let c_is = (Decides-eqb c 1).0 e in
        let d_is = (Decides-eqb d 1).0 f in
        (c_is ∙ sym d_is, sym (not_written text k c x p c_is).0 ∙ (not_written text k d y q d_is).0)
    by_tests true false e f =
        absurd (number_begins text d (42 ∷ y) (written text k d y q (eqb-false d 1 f))
        (not_written text k c x p ((Decides-eqb c 1).0 e)).1)
    by_tests false true e f =
        absurd (number_begins text c (42 ∷ x) (written text k c x p (eqb-false c 1 e))
        (not_written text k d y q ((Decides-eqb d 1).0 f)).1)
    by_tests false false e f =
        let parted = one_number text c d (42 ∷ x) (42 ∷ y) (written text k c x p (eqb-false c 1 e))
        (written text k d y q (eqb-false d 1 f)) in
        let tails = parted.1 in
        (parted.0, cc)

-- that of the constant is a number
pub constant : (text : List ℕ) (c : ℕ) (rest : List ℕ) → IsCoefficientAt text 0 c rest → IsNumberAt text c rest
constant text c rest p = record { small = p.small; spelled = p.spelled; ends = p.ends }

pub one_coefficient : (text : List ℕ) (power c d : ℕ) (x y : List ℕ) → IsCoefficientAt text power c x
    → IsCoefficientAt text power d y → (c ≡ d) × (x ≡ y)
one_coefficient text zero c d x y p q = one_number text c d x y (constant text c x p) (constant text d y q)
one_coefficient text (suc k) c d x y p q = one_factor text k c d x y p q

-- where a number is read, the coefficient is that number, and `*` comes behind
pub read_written : (text : List ℕ) (k n c : ℕ) (rest x : List ℕ) → IsNumberAt text n rest
    → IsCoefficientAt text (suc k) c x → (c ≡ 1 → ⊥) × (n ≡ c) × (rest ≡ 42 ∷ x)
read_written text k n c rest x read p =
    let other : c ≡ 1 → ⊥ = λ (one : c ≡ 1). number_begins text n rest read (not_written text k c x p one).1 in
    let same = one_number text n c rest (42 ∷ x) read (written text k c x p other) in
    (other, same.0, same.1)

-- so there is none where that number is 1 or no `*` comes
pub refused_one : (text : List ℕ) (power n : ℕ) (rest : List ℕ) → 0 < power → IsNumberAt text n rest → n ≡ 1
    → (c : ℕ) (x : List ℕ) → IsCoefficientAt text power c x → ⊥
refused_one text zero n rest above read one c x p = absurd (omega arith)
refused_one text (suc k) n rest above read one c x p = let is = read_written text k n c rest x read p in
    is.0 (sym is.1 ∙ one)

pub refused_bare : (text : List ℕ) (power n : ℕ) (rest : List ℕ) → 0 < power → IsNumberAt text n rest
    → pointwise nat_eq (take 1 rest) (42 ∷ []) ≡ false → (c : ℕ) (x : List ℕ) → IsCoefficientAt text power c x → ⊥
refused_bare text zero n rest above read bare c x p = absurd (omega arith)
refused_bare text (suc k) n rest above read bare c x p =
    no_prefix (42 ∷ []) rest x bare (read_written text k n c rest x read p).2

pub factor_read : (text : List ℕ) (power n : ℕ) (rest x : List ℕ) → 0 < power → IsNumberAt text n rest → (n ≡ 1 → ⊥)
    → rest ≡ 42 ∷ x → IsCoefficientAt text power n x
factor_read text zero n rest x above read other e = absurd (omega arith)
factor_read text (suc k) n rest x above read other e =
    let some : coefficient_text n (suc k) ≡ decimal n ++ 42 ∷ [] = (rw (ne_eqb n 1 other) refl) in
    record {
      small = read.small;
      spelled = read.spelled ∙ ap (λ r. decimal n ++ r) e ∙ sym (append_assoc (decimal n) (42 ∷ []) x)
          ∙ ap (λ f. f ++ x) (sym some);
      ends = λ one. absurd (other one);
    }
