use Rattle.teco_certificate.proofs.Prelude.{◌≡◌, ◌<◌, ◌++◌, ◌∷◌, [], Some, None, flat_map, arith, refl, sym, subst}
use Rattle.teco_certificate.proofs.Prelude.{Decides-eqb, strip_prefix_is, codes, REGISTERS, LF, longer_text}
use Rattle.teco_certificate.proofs.Prelude.{behind_comma, IsLongerText, TextsRise}
use Rattle.teco_poly.proofs.Items.{all_and, more_read, all_read}
use Rattle.teco_certificate.proofs.Rising.{front_rises}
use Rattle.teco_certificate.proofs.Spelling.{other_byte, ends_longer}
use Rattle.teco_certificate.proofs.reading.others_at.Goals as goal

pub loop-words-init : goal.loop-words-init
loop-words-init c = record {
  within = omega arith;
  rise = c.requires.rise;
  registers = c.requires.registers;
  left = λ ls rest are e. record { left = ls; are = are; whole = refl; text = e };
}

pub loop-words-preserved : goal.loop-words-preserved
loop-words-preserved c = record {
  within = omega (arith, c.in-Some.ensures.cases);
  rise = rw (c.in_ok-push.ensures.items, ← c.deref.ensures.value) (c.if-not-is_behind.ensures.0 refl);
  registers =
      rw c.in_ok-push.ensures.items
      (all_and (λ l. l.register < REGISTERS) c.loop-words.longer.items c.longer_at-other.result.0
      c.loop-words.invariant.registers c.longer_at-other.ensures.register);
  left = λ ls rest are e.
      rw c.in_ok-push.ensures.items
      (more_read (codes ",") longer_text IsLongerText (LF ∷ rest)
      (other_byte (LF ∷ rest) [] rest 10 44 refl (λ (same : 10 ≡ 44). omega arith))
      (c.args.longer.now.items ++ ls) c.loop-words.longer.items c.loop-words.rest.now
      (c.loop-words.invariant.left ls rest are e) c.in-Some.words.now
      (strip_prefix_is Decides-eqb c.loop-words.rest.now (codes ",") (Some c.in-Some.words) c.in-Some.ensures.cases)
      c.longer_at-other.result.0 c.longer_at-other.result.1.now
      (λ l others is f. c.longer_at-other.ensures.text l (flat_map behind_comma others ++ LF ∷ rest) is
      (ends_longer others rest) f));
}

pub returns-then-not-is_behind-clause-text : goal.returns-then-not-is_behind-clause-text
returns-then-not-is_behind-clause-text c = λ ls rest are rise e.
    let more = more_read (codes ",") longer_text IsLongerText (LF ∷ rest)
    (other_byte (LF ∷ rest) [] rest 10 44 refl (λ (same : 10 ≡ 44). omega arith))
    (c.args.longer.now.items ++ ls) c.loop-words.longer.items c.loop-words.rest.now
    (c.loop-words.invariant.left ls rest are e) c.in-Some.words.now
    (strip_prefix_is Decides-eqb c.loop-words.rest.now (codes ",") (Some c.in-Some.words) c.in-Some.ensures.cases)
    c.longer_at-other.result.0 c.longer_at-other.result.1.now
    (λ l others is f. c.longer_at-other.ensures.text l (flat_map behind_comma others ++ LF ∷ rest) is
    (ends_longer others rest) f) in
    let read = c.loop-words.longer.items ++ c.longer_at-other.result.0 ∷ [] in
    let rises : TextsRise (read ++ more.left) = subst TextsRise (sym more.whole) rise in
    let stands = c.if-not-is_behind.ensures.1 (rw c.deref.ensures.value (front_rises read more.left rises)) in
    absurd (cc)

pub returns-clause-text : goal.returns-clause-text
returns-clause-text c = λ ls rest are rise e.
    all_read (codes ",") longer_text IsLongerText (LF ∷ rest)
    (other_byte (LF ∷ rest) [] rest 10 44 refl (λ (same : 10 ≡ 44). omega arith))
    (c.args.longer.now.items ++ ls) c.loop-words.longer.items c.loop-words.rest.now
    (c.loop-words.invariant.left ls rest are e)
    (λ words f. strip_prefix_is Decides-eqb c.loop-words.rest.now (codes ",") None c.in_default.ensures.cases words f)
