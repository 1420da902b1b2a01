-- A `-` in place of a bound, and up to where a text is that of claims.
use Rattle.teco_claims.proofs.Prelude.{◌≡◌, ◌≤◌, ℕ, length, take, ap, Bool, true, false, Option, Some, None, List, []}
use Rattle.teco_claims.proofs.Prelude.{◌∷◌, ◌++◌, sym, subst, ◌∙◌, refl, arith, ◌&&◌, list_all, codes, ◌≢◌, IfSome, LF}
use Rattle.teco_claims.proofs.Prelude.{is_of_polynomial, LooksFor, types_text, Claimed, Polynomial, IsPoly, text}
use Rattle.teco_claims.specs.Reads.{IsFront}
use Rattle.teco_claims.specs.Spelled.{IsSpelled}
use Rattle.teco_claims.specs.Text.{grows_text, text_of}
use Rattle.teco_poly.proofs.Fronts.{polynomial_passes}
use Rattle.teco_claims.proofs.Parts.{first_byte, clash}

and_left : (a b : Bool) → (a && b) ≡ true → a ≡ true
and_left true b e = refl
and_left false b e = absurd (cc)

-- no polynomial begins with a `-`
no_dash : (p rest words : List ℕ) → list_all is_of_polynomial p ≡ true → p ++ LF ∷ rest ≢ 45 ∷ words
no_dash [] rest words each same = let is : 10 ≡ 45 = first_byte same in absurd (omega (arith, is))
no_dash (c ∷ p) rest words each same =
    let is : c ≡ 45 = first_byte same in
    clash (is_of_polynomial 45)
    (subst (λ d. is_of_polynomial d ≡ true) is (and_left (is_of_polynomial c) (list_all is_of_polynomial p) each)) refl

pub types_dash : (types : Option Polynomial) (rest behind_of behind : List ℕ) (found : Bool)
    → LooksFor behind_of (codes "-") found behind → found ≡ true → IfSome types IsPoly
    → behind_of ≡ types_text types ++ LF ∷ rest → (None ≡ types) × (behind ≡ LF ∷ rest)
types_dash None rest whole behind found looks there is e = (refl, (looks.there (LF ∷ rest) e).1)
types_dash (Some p) rest whole behind found looks there is e =
    let passes = polynomial_passes p is in
    absurd (clash found there (looks.not_there (λ words same. no_dash (text p) rest words passes (sym e ∙ same))).0)

-- a text has the line of how much longer it gets, or begins with another byte than that line does
pub grows_missing : (grows : Option Polynomial) (rest behind_of behind : List ℕ) (found : Bool)
    → LooksFor behind_of (codes "grows ") found behind → found ≡ false
    → behind_of ≡ grows_text grows ++ (codes "types " ++ rest) → (None ≡ grows) × (behind ≡ codes "types " ++ rest)
grows_missing None rest whole behind found looks missing e =
    (refl, (looks.not_there (λ words same. other_line words (sym e ∙ same))).1 ∙ e)
  where
    other_line : (words : List ℕ) → codes "types " ++ rest ≢ codes "grows " ++ words
    other_line words same = let is : 116 ≡ 103 = first_byte same in absurd (omega (arith, is))
grows_missing (Some p) rest whole behind found looks missing e =
    absurd (clash found (looks.there ((text p ++ LF ∷ []) ++ (codes "types " ++ rest)) e).0 missing)

pub front_is : (text written : List ℕ) (place : ℕ) (claimed : Claimed) → place ≤ length text
    → take place text ≡ take place written → IsSpelled claimed → written ≡ text_of claimed → IsFront text place
front_is text written place claimed within same spelled is = record {
  within = within;
  claimed = claimed;
  spelled = spelled;
  same = same ∙ ap (take place) is;
}
