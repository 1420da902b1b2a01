use Rattle.teco_claims.proofs.Prelude.{◌≡◌, Bool, true, false, List, ◌++◌, ◌∷◌, [], length, Some, None, flat_map, arith}
use Rattle.teco_claims.proofs.Prelude.{refl, sym, subst, ap, ◌∙◌, eqb-true, AllByRecursion, Decides-eqb}
use Rattle.teco_claims.proofs.Prelude.{strip_prefix_is, codes, ◌==◌, ClaimTerm, AreTerms, IsClaim, claim_line}
use Rattle.teco_claims.proofs.Claiming.{claims_apart}
use Rattle.teco_poly.proofs.Items.{more_read, all_read}
use Rattle.teco_claims.proofs.Parts.{clash}
use Rattle.teco_claims.proofs.Rising.{all_and, all_front, all_behind}
use Rattle.teco_claims.proofs.reading.claims_at.Invariants.{claim_rest}
use Rattle.teco_claims.proofs.reading.claims_at.Goals as goal

-- terms are a claim if there are some
claim_is : (slice ts : List ClaimTerm) (b : Bool) → slice ≡ ts → b ≡ (length slice == 0) → b ≡ false → AreTerms ts
    → IsClaim ts
claim_is slice [] b same e f are = absurd (clash b (e ∙ ap (λ ts. length ts == 0) same) f)
claim_is slice (t ∷ ts) b same e f are = record { some = omega arith; are = are }

no_claim : (slice ts : List ClaimTerm) (b : Bool) → slice ≡ ts → b ≡ (length slice == 0) → b ≡ true → IsClaim ts → ⊥
no_claim slice ts b same e f is =
    let none = eqb-true (length ts) 0 (ap (λ ts. length ts == 0) (sym same) ∙ sym e ∙ f) in
    absurd (omega (arith, none, is.some))

pub loop-words-init : goal.loop-words-init
loop-words-init c = record {
  within = omega arith;
  are = rw c.new-claims.ensures.items tt;
  left = λ cs rest are ends e. rw c.new-claims.ensures.items (record { left = cs; are = are; whole = refl; text = e });
}

pub loop-words-preserved : goal.loop-words-preserved
loop-words-preserved c = record {
  within = omega (arith, c.in-Some.ensures.cases, c.in_ok-claim.ensures.within);
  are =
      rw c.in_ok-push.ensures.items
      (all_and IsClaim c.loop-words.claims.items c.in_ok-claim.claim c.loop-words.invariant.are
      (claim_is c.as_slice.result.now c.in_ok-claim.claim c.is_empty.result (c.as_slice.ensures.value ∙ c.claim.view_is)
      c.is_empty.ensures
      c.if-is_empty.false c.in_ok-claim.ensures.are));
  left = λ cs rest are ends e.
      rw c.in_ok-push.ensures.items
      (more_read (codes "0 <=") claim_rest IsClaim rest (claims_apart rest ends)
      cs c.loop-words.claims.items c.loop-words.rest.now (c.loop-words.invariant.left cs rest are ends e)
      c.in-Some.words.now
      (strip_prefix_is Decides-eqb c.loop-words.rest.now (codes "0 <=") (Some c.in-Some.words) c.in-Some.ensures.cases)
      c.in_ok-claim.claim c.in_ok-claim.lines.now
      (λ ts others is f. c.in_ok-claim.ensures.text ts (flat_map claim_line others ++ rest) is f));
}

pub returns-then-is_empty-clause-text : goal.returns-then-is_empty-clause-text
returns-then-is_empty-clause-text c = λ cs rest are ends e.
    let more =
    more_read (codes "0 <=") claim_rest IsClaim rest (claims_apart rest ends)
    cs c.loop-words.claims.items c.loop-words.rest.now (c.loop-words.invariant.left cs rest are ends e)
    c.in-Some.words.now
    (strip_prefix_is Decides-eqb c.loop-words.rest.now (codes "0 <=") (Some c.in-Some.words) c.in-Some.ensures.cases)
    c.in_ok-claim.claim c.in_ok-claim.lines.now
    (λ ts others is f. c.in_ok-claim.ensures.text ts (flat_map claim_line others ++ rest) is f) in
    let read = c.loop-words.claims.items ++ c.in_ok-claim.claim ∷ [] in
    let each : AllByRecursion IsClaim (read ++ more.left) = subst (AllByRecursion IsClaim) (sym more.whole) are in
    let last =
    all_behind IsClaim c.loop-words.claims.items (c.in_ok-claim.claim ∷ []) (all_front IsClaim read more.left each) in
    absurd
    (no_claim c.as_slice.result.now c.in_ok-claim.claim c.is_empty.result (c.as_slice.ensures.value ∙ c.claim.view_is)
    c.is_empty.ensures
    c.if-is_empty.true last.0)

pub returns-clause-text : goal.returns-clause-text
returns-clause-text c = λ cs rest are ends e.
    all_read (codes "0 <=") claim_rest IsClaim rest (claims_apart rest ends)
    cs c.loop-words.claims.items c.loop-words.rest.now (c.loop-words.invariant.left cs rest are ends e)
    (strip_prefix_is Decides-eqb c.loop-words.rest.now (codes "0 <=") None c.in_default.ensures.cases)
