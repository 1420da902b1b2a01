-- The terms of a polynomial, joined: as they are written and as they are read.
use Rattle.teco_poly.proofs.Prelude.{◌≡◌, ℕ, zero, suc, ◌+◌, ◌^◌, ◌<◌, ◌≤◌, Bool, true, false, List, [], ◌∷◌, ◌++◌}
use Rattle.teco_poly.proofs.Prelude.{length, get_or, drop, sym, ap, ◌∙◌, refl, subst, arith, append_assoc, lit<, eq-eqb}
use Rattle.teco_poly.proofs.Prelude.{ne_eqb, eqb-false, decimal_nonempty, decimal_digit, Decides-eqb, drop-append_seam}
use Rattle.teco_poly.proofs.Prelude.{decimal, codes, ◌==◌, Polynomial, EndsTerm, IsNumberAt, IsTermAt, IsLedTermAt}
use Rattle.teco_poly.proofs.Prelude.{IsNextAt, IsPoly, power_text, coefficient_text, terms_from, joined, lead_behind}
use Rattle.std.proofs.Common.{set}
use Rattle.std.proofs.lemmas.List.{length-append, length-drop, length-set, append-nil}
use Rattle.std.proofs.lemmas.Grind.{drop-set_at}
use Rattle.teco_poly.specs.Reading.{AreSmall}
use Rattle.teco_poly.specs.Text.{term_text}
use Rattle.teco_poly.specs.Text.{joined_or_zero, text}
use Rattle.teco_poly.proofs.Front.{one_number, constant, read_written}
use Rattle.teco_poly.proofs.Terms.{one_term, term_coefficient}

-- the terms behind a term end it
ends_joined : (ts : List (List ℕ)) → EndsTerm (joined (codes " + ") ts)
ends_joined [] = tt
ends_joined (t ∷ ts) = refl

-- a coefficient that is not 0 is written, and one that is 0 is not
terms_zero : (power c : ℕ) (p : Polynomial) → c ≡ 0 → terms_from power (c ∷ p) ≡ terms_from (suc power) p
terms_zero power c p e = rw (eq-eqb c 0 e) refl

terms_some : (power c : ℕ) (p : Polynomial) → (c ≡ 0 → ⊥)
    → terms_from power (c ∷ p) ≡ term_text c power ∷ terms_from (suc power) p
terms_some power c p other = rw (ne_eqb c 0 other) refl

-- the term at the front of the text of a polynomial whose first coefficient is not 0
led_term : (text lead : List ℕ) (power c : ℕ) (p : Polynomial) → (c ≡ 0 → ⊥) → c < 2 ^ 64
    → text ≡ joined lead (terms_from power (c ∷ p))
    → IsLedTermAt text lead power c (joined (codes " + ") (terms_from (suc power) p))
led_term text lead power c p other small e = (
  term_text c power ++ joined (codes " + ") (terms_from (suc power) p),
  e ∙ ap (joined lead) (terms_some power c p other),
  record {
    some = omega (arith, other);
    small = small;
    spelled = refl;
    ends = ends_joined (terms_from (suc power) p);
  },
)

-- the first term of a polynomial that has one
data First (text lead : List ℕ) (power : ℕ) : Type 0 where
  none : text ≡ [] → First text lead power
  some : (k c : ℕ) (rest : List ℕ) → power ≤ k → k < 9 → IsLedTermAt text lead k c rest → First text lead power

first_term : (text lead : List ℕ) (power : ℕ) (p : Polynomial) → power + length p ≡ 9 → AreSmall p
    → text ≡ joined lead (terms_from power p) → First text lead power
first_term text lead power [] nine small e = none e
first_term text lead power (c ∷ p) nine small e =
    by_test (c == 0) refl (λ is. first_term text lead (suc power) p (omega arith) small.1 is)
  where
    later : First text lead (suc power) → First text lead power
    later (none is) = none is
    later (some k d rest from within q) = some k d rest (omega arith) within q

    by_test : (b : Bool) → (c == 0) ≡ b → (text ≡ joined lead (terms_from (suc power) p) → First text lead (suc power))
        → First text lead power
    by_test true is others = later (others (e ∙ ap (joined lead) (terms_zero power c p ((Decides-eqb c 0).0 is))))
    by_test false is others = some power c _ (omega arith) (omega arith)
        (led_term text lead power c p (eqb-false c 0 is) small.0 e)

-- a term is no empty text
power_some : (k : ℕ) → 0 < length (power_text (suc k))
power_some zero = omega arith
power_some (suc k) = omega arith

pub term_some : (c power : ℕ) → c < 2 ^ 64 → 0 < length (term_text c power)
term_some c zero small = omega (arith, decimal_nonempty c small, length-append (decimal c) [])
term_some c (suc k) small = omega (arith, power_some k, length-append (coefficient_text c (suc k)) (power_text (suc k)))

led_some : (text lead : List ℕ) (power c : ℕ) (rest : List ℕ) → IsLedTermAt text lead power c rest → text ≡ [] → ⊥
led_some text lead power c rest p e =
    omega (
      arith,
      ap length (sym p.1 ∙ e),
      length-append lead p.0,
      ap length p.2.spelled,
      length-append (term_text c power) rest,
      term_some c power p.2.small,
    )

-- one term stands behind what leads it
one_led : (text lead : List ℕ) (j k c d : ℕ) (x y : List ℕ) → j < 9 → k < 9 → IsLedTermAt text lead j c x
    → IsLedTermAt text lead k d y → (c ≡ d) × (j ≡ k) × (x ≡ y)
one_led text lead j k c d x y small_j small_k p q =
    let same : q.0 ≡ p.0 = sym (drop-append_seam lead q.0) ∙ ap (drop (length lead)) (sym q.1 ∙ p.1)
    ∙ drop-append_seam lead p.0 in
    one_term p.0 j k c d x y small_j small_k p.2 (subst (λ led. IsTermAt led k d y) same q.2)

-- where the rest is no text of further terms, the whole is none
module _ (text lead rest next : List ℕ) (power after : ℕ) (is_after : after ≡ suc power) (within : power < 9)
    (refused : (p : Polynomial) → after + length p ≡ 9 → AreSmall p → rest ≡ joined next (terms_from after p) → ⊥) where
  refused_suc : (p : Polynomial) → suc power + length p ≡ 9 → AreSmall p → rest ≡ joined next (terms_from (suc power) p)
      → ⊥
  refused_suc p nine small e = refused p (omega arith) small (e ∙ ap (λ k. joined next (terms_from k p)) (sym is_after))

  without_term : IsNextAt text lead power 0 rest next → (d : ℕ) (q : Polynomial) (b : Bool) → (d == 0) ≡ b
      → power + length (d ∷ q) ≡ 9 → AreSmall (d ∷ q) → text ≡ joined lead (terms_from power (d ∷ q)) → ⊥
  without_term n d q true is nine small e =
      refused_suc q (omega arith) small.1
      (n.0 ∙ e ∙ ap (joined lead) (terms_zero power d q ((Decides-eqb d 0).0 is))
      ∙ ap (λ l. joined l (terms_from (suc power) q)) (sym n.1))
  without_term n d q false is nine small e =
      n.2 d (joined (codes " + ") (terms_from (suc power) q))
      (led_term text lead power d q (eqb-false d 0 is) small.0 e)

  other_power : (c : ℕ) → IsLedTermAt text lead power c rest → First text lead (suc power) → ⊥
  other_power c p (none e) = led_some text lead power c rest p e
  other_power c p (some k d x from small q) = omega (arith, (one_led text lead power k c d rest x within small p q).1)

  with_term : (c : ℕ) → IsNextAt text lead power (suc c) rest next → (d : ℕ) (q : Polynomial) (b : Bool) → (d == 0) ≡ b
      → power + length (d ∷ q) ≡ 9 → AreSmall (d ∷ q) → text ≡ joined lead (terms_from power (d ∷ q)) → ⊥
  with_term c n d q true is nine small e =
      other_power (suc c) n.1 (first_term text lead (suc power) q (omega arith) small.1
      (e ∙ ap (joined lead) (terms_zero power d q ((Decides-eqb d 0).0 is))))
  with_term c n d q false is nine small e =
      let same = one_led text lead power power (suc c) d rest (joined (codes " + ") (terms_from (suc power) q)) within
      within n.1 (led_term text lead power d q (eqb-false d 0 is) small.0 e) in
      refused_suc q (omega arith) small.1 (same.2 ∙ ap (λ l. joined l (terms_from (suc power) q)) (sym n.0))

  pub next_refused : (c : ℕ) → IsNextAt text lead power c rest next → (p : Polynomial) → power + length p ≡ 9
      → AreSmall p → text ≡ joined lead (terms_from power p) → ⊥
  next_refused c n [] nine small e = omega arith
  next_refused zero n (d ∷ q) nine small e = without_term n d q (d == 0) refl nine small e
  next_refused (suc c) n (d ∷ q) nine small e = with_term c n d q (d == 0) refl nine small e

-- a coefficient that is read fits, and stands at its power
next_small : (text lead : List ℕ) (power c : ℕ) (rest next : List ℕ) → IsNextAt text lead power c rest next → c < 2 ^ 64
next_small text lead power zero rest next n = omega arith
next_small text lead power (suc c) rest next n = n.1.2.small

small_set : (p : Polynomial) (k c : ℕ) → AreSmall p → c < 2 ^ 64 → AreSmall (set p k c)
small_set [] k c small fits = small
small_set (d ∷ p) zero c small fits = (fits, small.1)
small_set (d ∷ p) (suc k) c small fits = (small.0, small_set p k c small.1 fits)

next_spelled : (text lead : List ℕ) (power c : ℕ) (rest next : List ℕ) (p : Polynomial)
    → IsNextAt text lead power c rest next → rest ≡ joined next (terms_from (suc power) p)
    → text ≡ joined lead (terms_from power (c ∷ p))
next_spelled text lead power zero rest next p n e = sym n.0 ∙ e ∙ ap (λ l. joined l (terms_from (suc power) p)) n.1
next_spelled text lead power (suc c) rest next p n e =
    n.1.1 ∙ ap (λ led. lead ++ led)
    (n.1.2.spelled ∙ ap (λ r. term_text (suc c) power ++ r) (e ∙ ap (λ l. joined l (terms_from (suc power) p)) n.0))
    ∙ ap (joined lead) (sym (terms_some power (suc c) p (λ (is : suc c ≡ 0). omega arith)))

pub next_read : (text lead : List ℕ) (power c : ℕ) (rest next : List ℕ) (p : Polynomial) → power < 9
    → IsNextAt text lead power c rest next
    → IsPoly p × (rest ≡ joined next (terms_from (power + 1) (drop (power + 1) p)))
    → IsPoly (set p power c) × (text ≡ joined lead (terms_from power (drop power (set p power c))))
next_read text lead power c rest next p within n read = (
  record {
    nine = length-set p power c ∙ read.0.nine;
    small = small_set p power c read.0.small (next_small text lead power c rest next n);
  },
  next_spelled text lead power c rest next (drop (suc power) p) n
      (read.1 ∙ ap (λ k. joined next (terms_from k (drop k p))) after)
      ∙ ap (λ q. joined lead (terms_from power q))
      (sym (drop-set_at p power power c refl (omega (arith, read.0.nine)) ∙ ap (λ k. c ∷ drop k p) after)),
)
  where
    after : power + 1 ≡ suc power
    after = omega arith

-- polynomials with one text are one
one_spelled : (text lead : List ℕ) (power : ℕ) (p q : Polynomial) → power + length p ≡ 9 → power + length q ≡ 9
    → AreSmall p → AreSmall q → text ≡ joined lead (terms_from power p) → text ≡ joined lead (terms_from power q)
    → p ≡ q
one_spelled text lead power [] [] nine_p nine_q small_p small_q e f = refl
one_spelled text lead power [] (d ∷ q) nine_p nine_q small_p small_q e f = absurd (omega arith)
one_spelled text lead power (c ∷ p) [] nine_p nine_q small_p small_q e f = absurd (omega arith)
one_spelled text lead power (c ∷ p) (d ∷ q) nine_p nine_q small_p small_q e f =
    by_tests (c == 0) (d == 0) refl refl
    (λ text lead e f. one_spelled text lead (suc power) p q (omega arith) (omega arith) small_p.1 small_q.1 e f)
  where
    -- one of the first coefficients alone is 0
    other : (c d : ℕ) (p q : Polynomial) → power + length (c ∷ p) ≡ 9 → power + length (d ∷ q) ≡ 9 → AreSmall (c ∷ p)
        → AreSmall (d ∷ q) → c ≡ 0 → (d ≡ 0 → ⊥) → text ≡ joined lead (terms_from power (c ∷ p))
        → text ≡ joined lead (terms_from power (d ∷ q)) → ⊥
    other c d p q nine_p nine_q small_p small_q left right e f =
        apart (led_term text lead power d q right small_q.0 f)
        (first_term text lead (suc power) p (omega arith) small_p.1
        (e ∙ ap (joined lead) (terms_zero power c p left)))
      where
        apart : IsLedTermAt text lead power d (joined (codes " + ") (terms_from (suc power) q))
            → First text lead (suc power) → ⊥
        apart led (none e) = led_some text lead power d _ led e
        apart led (some k e x from small led') =
            omega (arith, (one_led text lead power k d e _ x (omega arith) small led led').1)

    by_tests : (a b : Bool) → (c == 0) ≡ a → (d == 0) ≡ b
        → ((text lead : List ℕ) → text ≡ joined lead (terms_from (suc power) p)
        → text ≡ joined lead (terms_from (suc power) q) → p ≡ q) → c ∷ p ≡ d ∷ q
    by_tests true true a b others =
        let c_is = (Decides-eqb c 0).0 a in
        let d_is = (Decides-eqb d 0).0 b in
        let tails = others text lead (e ∙ ap (joined lead) (terms_zero power c p c_is))
        (f ∙ ap (joined lead) (terms_zero power d q d_is)) in
        cc
    by_tests true false a b others =
        absurd (other c d p q nine_p nine_q small_p small_q ((Decides-eqb c 0).0 a) (eqb-false d 0 b) e f)
    by_tests false true a b others =
        absurd (other d c q p nine_q nine_p small_q small_p ((Decides-eqb d 0).0 b) (eqb-false c 0 a) f e)
    by_tests false false a b others =
        let same = one_led text lead power power c d _ _ (omega arith) (omega arith)
        (led_term text lead power c p (eqb-false c 0 a) small_p.0 e)
        (led_term text lead power d q (eqb-false d 0 b) small_q.0 f) in
        let tails = others _ (codes " + ") refl same.2 in
        let heads = same.0 in
        cc

-- one term more is written
module _ (written : List ℕ) (power c : ℕ) (p : Polynomial) where
  pub behind_some : (t rest : List ℕ) → 0 < length t
      → lead_behind (written ++ (lead_behind written ++ (t ++ rest))) ≡ codes " + "
  behind_some t rest nonempty = behind written t rest nonempty
    where
      behind : (w t rest : List ℕ) → 0 < length t → lead_behind (w ++ (lead_behind w ++ (t ++ rest))) ≡ codes " + "
      behind [] [] rest nonempty = absurd (omega arith)
      behind [] (x ∷ t) rest nonempty = refl
      behind (b ∷ w) t rest nonempty = refl

  pub written_zero : (new : List ℕ) → c ≡ 0 → new ≡ written ++ joined (lead_behind written) (terms_from power (c ∷ []))
      → new ++ joined (lead_behind new) (terms_from (suc power) p) ≡ written
      ++ joined (lead_behind written) (terms_from power (c ∷ p))
  written_zero new is e =
      let same : new ≡ written = e ∙ ap (λ ts. written ++ joined (lead_behind written) ts) (terms_zero power c [] is)
      ∙ append-nil written in
      ap (λ n. n ++ joined (lead_behind n) (terms_from (suc power) p)) same
      ∙ ap (λ ts. written ++ joined (lead_behind written) ts) (sym (terms_zero power c p is))

  regroup : (lead term rest : List ℕ) → (written ++ (lead ++ (term ++ []))) ++ rest ≡ written
      ++ (lead ++ (term ++ rest))
  regroup lead term rest =
      append_assoc written (lead ++ (term ++ [])) rest
      ∙ ap (λ l. written ++ l) (append_assoc lead (term ++ []) rest
      ∙ ap (λ t. lead ++ t) (ap (λ t. t ++ rest) (append-nil term)))

  pub written_some : (new : List ℕ) → (c ≡ 0 → ⊥) → c < 2 ^ 64
      → new ≡ written ++ joined (lead_behind written) (terms_from power (c ∷ []))
      → new ++ joined (lead_behind new) (terms_from (suc power) p) ≡ written
      ++ joined (lead_behind written) (terms_from power (c ∷ p))
  written_some new other small e =
      let is : new ≡ written ++ (lead_behind written ++ (term_text c power ++ [])) =
      e ∙ ap (λ ts. written ++ joined (lead_behind written) ts) (terms_some power c [] other) in
      let next : lead_behind new ≡ codes " + " =
      ap lead_behind is ∙ behind_some (term_text c power) [] (term_some c power small) in
      ap (λ l. new ++ joined l (terms_from (suc power) p)) next
      ∙ ap (λ n. n ++ joined (codes " + ") (terms_from (suc power) p)) is
      ∙ regroup (lead_behind written) (term_text c power) (joined (codes " + ") (terms_from (suc power) p))
      ∙ ap (λ ts. written ++ joined (lead_behind written) ts) (sym (terms_some power c p other))

  -- in either case
  pub written_more : (new : List ℕ) (after : ℕ) → after ≡ suc power → c < 2 ^ 64
      → new ≡ written ++ joined (lead_behind written) (terms_from power (c ∷ []))
      → new ++ joined (lead_behind new) (terms_from after p) ≡ written
      ++ joined (lead_behind written) (terms_from power (c ∷ p))
  written_more new after is small e = ap (λ k. new ++ joined (lead_behind new) (terms_from k p)) is
      ∙ by_test (c == 0) refl
    where
      by_test : (b : Bool) → (c == 0) ≡ b → new ++ joined (lead_behind new) (terms_from (suc power) p) ≡ written
          ++ joined (lead_behind written) (terms_from power (c ∷ p))
      by_test true test = written_zero new ((Decides-eqb c 0).0 test) e
      by_test false test = written_some new (eqb-false c 0 test) small e

-- terms that are joined to nothing are none
terms_none : (lead : List ℕ) (power : ℕ) (p : Polynomial) → AreSmall p → joined lead (terms_from power p) ≡ []
    → terms_from power p ≡ []
terms_none lead power [] small e = refl
terms_none lead power (c ∷ p) small e = by_test (c == 0) refl (λ is. terms_none lead (suc power) p small.1 is)
  where
    by_test : (b : Bool) → (c == 0) ≡ b → (joined lead (terms_from (suc power) p) ≡ [] → terms_from (suc power) p ≡ [])
        → terms_from power (c ∷ p) ≡ []
    by_test true is others =
        let left = terms_zero power c p ((Decides-eqb c 0).0 is) in left ∙ others (ap (joined lead) (sym left) ∙ e)
    by_test false is others = absurd
        (led_some _ lead power c _ (led_term _ lead power c p (eqb-false c 0 is) small.0 refl) e)

no_length : (xs : List ℕ) → length xs ≡ 0 → xs ≡ []
no_length [] e = refl
no_length (x ∷ xs) e = absurd (omega arith)

-- the text of a polynomial is not empty, and it is its terms where it has any
some_terms : (ts : List (List ℕ)) → (joined [] ts ≡ [] → ts ≡ []) → joined_or_zero ts ≡ [] → ⊥
some_terms [] left e = cc
some_terms (t ∷ ts) left e = let is = left e in cc

pub spelled_some : (p : Polynomial) (written : List ℕ) → length written ≡ 0 → IsPoly p → written ≡ text p → ⊥
spelled_some p written empty is e =
    some_terms (terms_from 0 p) (terms_none [] 0 p is.small) (sym e ∙ no_length written empty)

module _ (p : Polynomial) (written : List ℕ) (small : AreSmall p) (e : written ≡ joined [] (terms_from 0 p)) where
  no_terms : length written ≡ 0 → terms_from 0 p ≡ []
  no_terms empty = terms_none [] 0 p small (sym e ∙ no_length written empty)

  pub printed_zero : (new : List ℕ) → length written ≡ 0 → new ≡ written ++ codes "0" → new ≡ text p
  printed_zero new empty is = is ∙ ap (λ w. w ++ codes "0") (no_length written empty)
      ∙ ap joined_or_zero (sym (no_terms empty))

  pub printed_terms : (length written ≡ 0 → ⊥) → written ≡ text p
  printed_terms full = by_terms (terms_from 0 p) e
    where
      by_terms : (ts : List (List ℕ)) → written ≡ joined [] ts → written ≡ joined_or_zero ts
      by_terms [] is = absurd (full (ap length is))
      by_terms (t ∷ ts) is = is

-- `0` is no term
zero_number : IsNumberAt (codes "0") 0 []
zero_number = record { small = lit< tt; spelled = sym (ap (λ ds. ds ++ []) (decimal_digit 0 (lit< tt))); ends = tt }

zero_no_term : (k c : ℕ) (rest : List ℕ) → IsTermAt (codes "0") k c rest → ⊥
zero_no_term zero c rest p = omega (
  arith,
  p.some,
  (one_number (codes "0") 0 c [] rest zero_number
      (constant (codes "0") c rest (term_coefficient (codes "0") 0 c rest p))).0,
)
zero_no_term (suc k) c rest p = let star =
    (read_written (codes "0") k 0 c [] _ zero_number (term_coefficient (codes "0") (suc k) c rest p)).2 in cc

zero_terms : (p : Polynomial) → IsPoly p → codes "0" ≡ joined [] (terms_from 0 p) → ⊥
zero_terms p is e = apart (first_term (codes "0") [] 0 p (omega (arith, is.nine)) is.small e)
  where
    apart : First (codes "0") [] 0 → ⊥
    apart (none e) = cc
    apart (some k c rest from within led) = zero_no_term k c rest (subst (λ x. IsTermAt x k c rest) (sym led.1) led.2)

-- polynomials with one text are one
pub one_text : (p q : Polynomial) (written : List ℕ) → IsPoly p → IsPoly q → written ≡ text p → written ≡ text q → p ≡ q
one_text p q written is_p is_q e f = by_terms (terms_from 0 p) (terms_from 0 q) refl refl e f
  where
    by_terms : (ts us : List (List ℕ)) → terms_from 0 p ≡ ts → terms_from 0 q ≡ us → written ≡ joined_or_zero ts
        → written ≡ joined_or_zero us → p ≡ q
    by_terms [] [] ts us e f =
        one_spelled [] [] 0 p q (omega (arith, is_p.nine)) (omega (arith, is_q.nine)) is_p.small is_q.small
        (ap (joined []) (sym ts)) (ap (joined []) (sym us))
    by_terms [] (u ∷ others) ts us e f = absurd (zero_terms q is_q (sym e ∙ f ∙ ap (joined []) (sym us)))
    by_terms (t ∷ others) [] ts us e f = absurd (zero_terms p is_p (sym f ∙ e ∙ ap (joined []) (sym ts)))
    by_terms (t ∷ ts') (u ∷ us') ts us e f =
        one_spelled written [] 0 p q (omega (arith, is_p.nine)) (omega (arith, is_q.nine)) is_p.small is_q.small
        (e ∙ ap (joined []) (sym ts)) (f ∙ ap (joined []) (sym us))

-- coefficients of 64 bits are small
pub small_by : (p : Polynomial) → ((k : ℕ) → get_or p k 0 < 2 ^ 64) → AreSmall p
small_by [] each = tt
small_by (c ∷ p) each = (each 0, small_by p (λ k. each (suc k)))

-- all coefficients have been gone through
pub all_written : (written : List ℕ) (power : ℕ) (p all : List ℕ) → length p ≤ power
    → written ++ joined (lead_behind written) (terms_from power (drop power p)) ≡ all → written ≡ all
all_written written power p all done e =
    let none : joined (lead_behind written) (terms_from power (drop power p)) ≡ [] =
    ap (λ q. joined (lead_behind written) (terms_from power q))
    (no_length (drop power p) (omega (arith, length-drop power p))) in
    sym (append-nil written) ∙ ap (λ r. written ++ r) (sym none) ∙ e

-- nine coefficients of 64 bits are those of a polynomial that a `Poly` may be
pub is_poly : (p : Polynomial) → length p ≡ 9 → ((k : ℕ) → get_or p k 0 < 2 ^ 64) → IsPoly p
is_poly p nine each = record { nine = nine; small = small_by p each }

pub small_at : (p : Polynomial) (k : ℕ) → AreSmall p → get_or p k 0 < 2 ^ 64
small_at [] k small = omega arith
small_at (c ∷ p) zero small = small.0
small_at (c ∷ p) (suc k) small = small_at p k small.1
