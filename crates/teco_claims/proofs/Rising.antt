-- Terms that stand in order, and one more.
use Rattle.teco_claims.proofs.Prelude.{◌≡◌, ◌+◌, ◌<◌, List, [], ◌∷◌, ◌++◌, length, arith, AllByRecursion, ClaimTerm}
use Rattle.teco_claims.proofs.Prelude.{IsTerm, AreTerms}
use Rattle.std.proofs.Common.{get_or, length-append}
use Rattle.std.proofs.lemmas.List.{get_or_append_left}
use Rattle.teco_claims.specs.declared.term.TheConstants.{MAX_TERMS}
use Rattle.teco_claims.specs.Spelled.{TermsRise}

module _ {X : Type 0} (P : X → Type 0) where
  pub all_and : (xs : List X) (x : X) → AllByRecursion P xs → P x → AllByRecursion P (xs ++ x ∷ [])
  all_and [] x are is = (is, tt)
  all_and (y ∷ ys) x are is = (are.0, all_and ys x are.1 is)

  pub all_front : (xs ys : List X) → AllByRecursion P (xs ++ ys) → AllByRecursion P xs
  all_front [] ys are = tt
  all_front (x ∷ xs) ys are = (are.0, all_front xs ys are.1)

  pub all_behind : (xs ys : List X) → AllByRecursion P (xs ++ ys) → AllByRecursion P ys
  all_behind [] ys are = are
  all_behind (x ∷ xs) ys are = all_behind xs ys are.1

front_rises : (xs ys : List ClaimTerm) → TermsRise (xs ++ ys) → TermsRise xs
front_rises xs ys rise = λ k d h.
    let at = rise k d (omega (arith, length-append xs ys)) in
    let here : get_or (xs ++ ys) k d ≡ get_or xs k d = get_or_append_left xs ys d k (omega arith) in
    let next : get_or (xs ++ ys) (k + 1) d ≡ get_or xs (k + 1) d = get_or_append_left xs ys d (k + 1) (omega arith) in
    rw (here, next) at at

-- the front of terms
pub terms_front : (xs ys : List ClaimTerm) → AreTerms (xs ++ ys) → AreTerms xs
terms_front xs ys are = record {
  few = omega (arith, length-append xs ys, are.few);
  each = all_front IsTerm xs ys are.each;
  rise = front_rises xs ys are.rise;
}

pub no_terms : AreTerms []
no_terms = record {
  few = omega arith;
  each = tt;
  rise = λ k d h. absurd (omega (arith, h));
}

-- one more
module _ (xs : List ClaimTerm) (x : ClaimTerm) where
  pub terms_and : AreTerms xs → length xs < MAX_TERMS → IsTerm x → TermsRise (xs ++ x ∷ []) → AreTerms (xs ++ x ∷ [])
  terms_and are few is rise = record {
    few = omega (arith, length-append xs (x ∷ []), few);
    each = all_and IsTerm xs x are.each is;
    rise = rise;
  }

  pub few_before : AreTerms (xs ++ x ∷ []) → length xs < MAX_TERMS
  few_before are = omega (arith, length-append xs (x ∷ []), are.few)

  pub last_is : AreTerms (xs ++ x ∷ []) → IsTerm x
  last_is are = (all_behind IsTerm xs (x ∷ []) are.each).0
