use Rattle.teco_claims.proofs.Prelude.{◌≡◌, ℕ, List, ◌++◌, ◌∷◌, [], Some, None, flat_map, arith, refl, sym, subst}
use Rattle.teco_claims.proofs.Prelude.{Decides-eqb, strip_prefix_is, codes, ◌≢◌, LF, IsTerm, AreTerms, signed_text}
use Rattle.teco_claims.proofs.Prelude.{next_text}
use Rattle.teco_claims.proofs.Claiming.{other_byte, ends_next}
use Rattle.teco_poly.proofs.Items.{more_read, all_read}
use Rattle.teco_claims.proofs.Rising.{all_behind, terms_front}
use Rattle.teco_claims.proofs.reading.others_at.Goals as goal

no_term : (rest words : List ℕ) → LF ∷ rest ≢ codes " " ++ words
no_term rest = other_byte (LF ∷ rest) [] rest 10 32 refl (λ (same : 10 ≡ 32). omega arith)

pub loop-words-init : goal.loop-words-init
loop-words-init c = record {
  within = omega arith;
  are = c.requires;
  left = λ ts rest are e. record { left = ts; are = are; whole = refl; text = e };
}

pub loop-words-preserved : goal.loop-words-preserved
loop-words-preserved c = record {
  within = omega (arith, c.in-Some.ensures.cases);
  are = rw (c.in_ok-push.ensures.items, ← c.deref.ensures.value) (c.if-not-is_next.ensures.0 refl);
  left = λ ts rest are e.
      rw c.in_ok-push.ensures.items
      (more_read (codes " ") signed_text IsTerm (LF ∷ rest) (no_term rest)
      (c.args.terms.now.items ++ ts) c.loop-words.terms.items c.loop-words.rest.now
      (c.loop-words.invariant.left ts rest are e) c.in-Some.words.now
      (strip_prefix_is Decides-eqb c.loop-words.rest.now (codes " ") (Some c.in-Some.words) c.in-Some.ensures.cases)
      c.next_at-term.result.0 c.next_at-term.result.1.now
      (λ t others is f. c.next_at-term.ensures.text t (flat_map next_text others ++ LF ∷ rest) is
      (ends_next others rest) f));
}

pub returns-then-not-is_next-clause-text : goal.returns-then-not-is_next-clause-text
returns-then-not-is_next-clause-text c = λ ts rest are e.
    let each = all_behind IsTerm c.args.terms.now.items ts are.each in
    let more =
    more_read (codes " ") signed_text IsTerm (LF ∷ rest) (no_term rest)
    (c.args.terms.now.items ++ ts) c.loop-words.terms.items c.loop-words.rest.now
    (c.loop-words.invariant.left ts rest each e) c.in-Some.words.now
    (strip_prefix_is Decides-eqb c.loop-words.rest.now (codes " ") (Some c.in-Some.words) c.in-Some.ensures.cases)
    c.next_at-term.result.0 c.next_at-term.result.1.now
    (λ t others is f. c.next_at-term.ensures.text t (flat_map next_text others ++ LF ∷ rest) is
    (ends_next others rest) f) in
    let read = c.loop-words.terms.items ++ c.next_at-term.result.0 ∷ [] in
    let all : AreTerms (read ++ more.left) = subst AreTerms (sym more.whole) are in
    let stands = c.if-not-is_next.ensures.1 (rw c.deref.ensures.value (terms_front read more.left all)) in
    absurd (cc)

pub returns-clause-text : goal.returns-clause-text
returns-clause-text c = λ ts rest are e.
    all_read (codes " ") signed_text IsTerm (LF ∷ rest) (no_term rest)
    (c.args.terms.now.items ++ ts) c.loop-words.terms.items c.loop-words.rest.now
    (c.loop-words.invariant.left ts rest (all_behind IsTerm c.args.terms.now.items ts are.each) e)
    (strip_prefix_is Decides-eqb c.loop-words.rest.now (codes " ") None c.in_default.ensures.cases)
