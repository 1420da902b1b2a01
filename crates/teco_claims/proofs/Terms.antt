-- What is read of the parts of a term.
use Rattle.teco_claims.proofs.Prelude.{◌≡◌, ℕ, zero, suc, Bool, true, false, cond, Option, Some, None, List, [], ◌∷◌}
use Rattle.teco_claims.proofs.Prelude.{◌++◌, sym, ◌∙◌, refl, arith, append_assoc, subst, ◌&&◌, eqb-true, is_ascii_digit}
use Rattle.teco_claims.proofs.Prelude.{decimal, codes, ◌≢◌, ◌==◌, ClaimMeasure, One, Number, Length, Turns}
use Rattle.teco_claims.proofs.Prelude.{PushedNumber, PushedLength, Steps, Pointer, Size, Held, LineEnd, LineStart}
use Rattle.teco_claims.proofs.Prelude.{LastLength, Typed, EntryHeld, Fraction, ClaimTerm, begins, EndsPart, EndsTerm}
use Rattle.teco_claims.proofs.Prelude.{LooksFor}
use Rattle.teco_claims.proofs.Prelude.{IsTerm, name_text, divisor_text, fraction_text, is_one, factor_text, star_text}
use Rattle.teco_claims.proofs.Prelude.{unit_text, body_text, first_sign, signed_text, EndsNumber, power_text}
use Rattle.std.proofs.lemmas.Bool.{lt-ltb}
use Rattle.std.specs.Prelude.{◌||◌, nat_lt}
use Rattle.std.specs.Option.{is_some}
use Rattle.teco_claims.specs.Front.{EndsFactor}
use Rattle.teco_claims.specs.Spelled.{IsLowest}
use Rattle.teco_claims.specs.Text.{next_sign}
use Rattle.teco_claims.proofs.Claiming.{other_byte}
use Rattle.teco_claims.proofs.Parts.{clash, digit_first, apart_part, apart_byte, part_byte, term_apart}
use Rattle.teco_claims.proofs.Parts.{name_apart, unit_number, body_minus, body_plus}

pub ends_factor : (power : ℕ) (measure : Option ClaimMeasure) (rest : List ℕ) → EndsTerm rest
    → EndsFactor (nat_lt 0 power || is_some measure) (unit_text power measure ++ rest)
ends_factor zero None rest ends = ends
ends_factor zero (Some measure) rest ends = unit_number zero (Some measure) rest ends
ends_factor (suc zero) measure rest ends = unit_number (suc zero) measure rest ends
ends_factor (suc (suc power)) measure rest ends =
    rw (lt-ltb 0 (suc (suc power)) (omega arith)) (unit_number (suc (suc power)) measure rest ends)

pub same_term : (t : ClaimTerm) {is_negative : Bool} {coefficient : Fraction} {power : ℕ}
    {measure : Option ClaimMeasure}
    → is_negative ≡ t.is_negative → coefficient ≡ t.coefficient → power ≡ t.power → measure ≡ t.measure
    → record { is_negative = is_negative; coefficient = coefficient; power = power; measure = measure } ≡ t
same_term t s c p m = rw (s, c, p, m) refl

pub parts_of_unit : (power : ℕ) (measure : Option ClaimMeasure) (rest : List ℕ)
    → unit_text power measure ++ rest ≡ power_text power ++ (star_text power measure ++ (name_text measure ++ rest))
parts_of_unit power measure rest = simp append_assoc

pub ends_power : (power : ℕ) (measure : Option ClaimMeasure) (rest : List ℕ) → EndsTerm rest
    → EndsPart (star_text power measure ++ (name_text measure ++ rest))
ends_power zero measure rest ends = apart_part (name_text measure ++ rest) (name_apart measure rest ends)
ends_power (suc power) None rest ends = apart_part rest (term_apart rest ends)
ends_power (suc power) (Some measure) rest ends = refl

pub star_read : (power : ℕ) (measure : Option ClaimMeasure) (rest text behind : List ℕ) (found : Bool)
    → LooksFor text (codes "*") found behind → EndsTerm rest
    → text ≡ star_text power measure ++ (name_text measure ++ rest) → behind ≡ name_text measure ++ rest
star_read zero measure rest text behind found looks ends e =
    let name = name_text measure ++ rest in
    let apart = name_apart measure rest ends in
    (looks.not_there (λ words same. apart_byte name 42 apart refl words (sym e ∙ same))).1 ∙ e
star_read (suc power) None rest text behind found looks ends e =
    (looks.not_there (λ words same. apart_byte rest 42 (term_apart rest ends) refl words (sym e ∙ same))).1 ∙ e
star_read (suc power) (Some measure) rest text behind found looks ends e =
    (looks.there (name_text (Some measure) ++ rest) e).1

-- the sign of the first term
pub first_read : (t : ClaimTerm) (rest text behind : List ℕ) (found : Bool) → LooksFor text (codes "- ") found behind
    → IsTerm t → EndsTerm rest
    → text ≡ first_sign t.is_negative ++ (body_text t ++ rest)
    → (found ≡ t.is_negative) × (behind ≡ body_text t ++ rest)
first_read t rest text behind found looks is ends e = by_sign t.is_negative e
  where
    by_sign : (b : Bool) → text ≡ first_sign b ++ (body_text t ++ rest) → (found ≡ b) × (behind ≡ body_text t ++ rest)
    by_sign true f = looks.there (body_text t ++ rest) f
    by_sign false f =
        let none = looks.not_there (λ words same. body_minus t rest (32 ∷ words) is ends (sym f ∙ same)) in
        (none.0, none.1 ∙ f)

pub next_read : (t : ClaimTerm) (rest text one two : List ℕ) (found plus : Bool) → LooksFor text (codes "- ") found one
    → LooksFor one (codes "+ ") plus two → IsTerm t → EndsTerm rest
    → text ≡ signed_text t ++ rest → (found ≡ t.is_negative) × (two ≡ body_text t ++ rest)
next_read t rest text one two found plus looks more is ends e = by_sign t.is_negative e
  where
    by_sign : (b : Bool) → text ≡ (next_sign b ++ body_text t) ++ rest → (found ≡ b) × (two ≡ body_text t ++ rest)
    by_sign true f =
        let minus = looks.there (body_text t ++ rest) f in
        let none = more.not_there (λ words same. body_plus t rest (32 ∷ words) is ends (sym minus.1 ∙ same)) in
        (minus.0, none.1 ∙ minus.1)
    by_sign false f =
        let none =
        looks.not_there
        (other_byte text (codes " ") (32 ∷ (body_text t ++ rest)) 43 45 f (λ (same : 43 ≡ 45). omega arith)) in
        (none.0, (more.there (body_text t ++ rest) (none.1 ∙ f)).1)

-- a divisor of 1 is not there
pub divisor_read : (n : ℕ) (rest text behind : List ℕ) (found : Bool) → LooksFor text (codes "/") found behind
    → EndsPart rest → text ≡ divisor_text n ++ rest
    → cond found (behind ≡ decimal n ++ rest) ((n ≡ 1) × (behind ≡ rest))
divisor_read n rest text behind found looks ends e = by_test (n == 1) refl e
  where
    by_test : (b : Bool) → (n == 1) ≡ b → text ≡ cond b [] (codes "/" ++ decimal n) ++ rest
        → cond found (behind ≡ decimal n ++ rest) ((n ≡ 1) × (behind ≡ rest))
    by_test true is f =
        let none = looks.not_there (λ words same. part_byte rest 47 ends refl words (sym f ∙ same)) in
        rw none.0 (eqb-true n 1 is, none.1 ∙ f)
    by_test false is f = let slash = looks.there (decimal n ++ rest) f in rw slash.0 slash.1

-- what has no byte has no name and no end of a term
pub name_some : (measure : Option ClaimMeasure) (rest : List ℕ) → EndsTerm rest → [] ≢ name_text measure ++ rest
name_some None [] ends same = absurd ends
name_some None (c ∷ rest) ends same = absurd (cc)
name_some (Some (One Steps)) rest ends same = absurd (cc)
name_some (Some (One Pointer)) rest ends same = absurd (cc)
name_some (Some (One Size)) rest ends same = absurd (cc)
name_some (Some (One Held)) rest ends same = absurd (cc)
name_some (Some (One LineEnd)) rest ends same = absurd (cc)
name_some (Some (One LineStart)) rest ends same = absurd (cc)
name_some (Some (One LastLength)) rest ends same = absurd (cc)
name_some (Some (One Typed)) rest ends same = absurd (cc)
name_some (Some (One EntryHeld)) rest ends same = absurd (cc)
name_some (Some (Number register)) rest ends same = absurd (cc)
name_some (Some (Length register)) rest ends same = absurd (cc)
name_some (Some (Turns begin)) rest ends same = absurd (cc)
name_some (Some (PushedNumber pair)) rest ends same = absurd (cc)
name_some (Some (PushedLength pair)) rest ends same = absurd (cc)

no_digit : (rest : List ℕ) → EndsNumber rest → begins is_ascii_digit rest ≡ false
no_digit [] ends = refl
no_digit (c ∷ rest) ends = ends

fraction_digit : (f : Fraction) (rest : List ℕ) → IsLowest f → begins is_ascii_digit (fraction_text f ++ rest) ≡ true
fraction_digit f rest is =
    subst (λ t. begins is_ascii_digit t ≡ true) (sym (append_assoc (decimal f.numerator) (divisor_text f.divisor) rest))
    (digit_first f.numerator (omega (arith, is.numerator)) (divisor_text f.divisor ++ rest))

both_true : (a b : Bool) → (a && b) ≡ true → (a ≡ true) × (b ≡ true)
both_true true b e = (refl, e)
both_true false b e = absurd (cc)

same_fraction : (f : Fraction) {numerator divisor : ℕ} → numerator ≡ f.numerator → divisor ≡ f.divisor
    → record { numerator = numerator; divisor = divisor } ≡ f
same_fraction f n d = rw (n, d) refl

the_one : (f : Fraction) → is_one f ≡ true → record { numerator = 1; divisor = 1 } ≡ f
the_one f is =
    let parts = both_true (f.numerator == 1) (f.divisor == 1) is in
    same_fraction f (sym (eqb-true f.numerator 1 parts.0)) (sym (eqb-true f.divisor 1 parts.1))

module _ (f : Fraction) (rest text : List ℕ) (is : IsLowest f) where
  -- no number, no `*`: a coefficient of 1
  pub factor_none : (has : Bool) → begins is_ascii_digit text ≡ false → text ≡ factor_text f has ++ rest
      → (record { numerator = 1; divisor = 1 } ≡ f) × (text ≡ rest)
  factor_none false none e =
      let some = subst (λ t. begins is_ascii_digit t ≡ true) (sym e) (fraction_digit f rest is) in
      absurd (clash (begins is_ascii_digit text) some none)
  factor_none true none e = by_test (is_one f) refl e
    where
      by_test : (b : Bool) → is_one f ≡ b → text ≡ cond b [] (fraction_text f ++ codes "*") ++ rest
          → (record { numerator = 1; divisor = 1 } ≡ f) × (text ≡ rest)
      by_test true one g = (the_one f one, g)
      by_test false one g =
          let whole = g ∙ append_assoc (fraction_text f) (codes "*") rest in
          let digit = fraction_digit f (codes "*" ++ rest) is in
          absurd (clash (begins is_ascii_digit text) (subst (λ t. begins is_ascii_digit t ≡ true) (sym whole) digit)
          none)

  module _ (read : Fraction) (after behind : List ℕ) (found : Bool) (looks : LooksFor after (codes "*") found behind)
      (taken : (r : List ℕ) → EndsPart r → text ≡ fraction_text f ++ r → (read ≡ f) × (after ≡ r)) where
    pub factor_some : (has : Bool) → EndsFactor has rest → begins is_ascii_digit text ≡ true
        → text ≡ factor_text f has ++ rest → (read ≡ f) × (behind ≡ rest)
    factor_some false ends some e =
        let one = taken rest (apart_part rest (term_apart rest ends)) e in
        let apart = term_apart rest ends in
        (one.0, (looks.not_there (λ words same. apart_byte rest 42 apart refl words (sym one.1 ∙ same))).1 ∙ one.1)
    factor_some true ends some e = by_test (is_one f) e
      where
        by_test : (b : Bool) → text ≡ cond b [] (fraction_text f ++ codes "*") ++ rest → (read ≡ f) × (behind ≡ rest)
        by_test true g =
            let none = subst (λ t. begins is_ascii_digit t ≡ false) (sym g) (no_digit rest ends) in
            absurd (clash (begins is_ascii_digit text) some none)
        by_test false g =
            let one = taken (codes "*" ++ rest) refl (g ∙ append_assoc (fraction_text f) (codes "*") rest) in
            (one.0, (looks.there rest one.1).1)
