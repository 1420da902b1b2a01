use Rattle.std.proofs.Common.{◌≡◌, ◌≢◌, length, ap, sym, ◌∙◌, arith}
use Rattle.teco_model.specs.declared.skip.Bracket.TheVariants.{Closes}
use Rattle.teco_model.proofs.SkipSteps.{tag_skip-none, tag_skip-faulty, tag_skip-goes_on, tag_skip-leaves}
use Rattle.teco_model.proofs.SkipSteps.{tag_skip-ends}
use Rattle.teco_lex.proofs.skips.tag_skip.Goals as goal
use Rattle.teco_lex.proofs.skips.tag_skip.Goals.{in-Closes, in_default-matches}

pub loop-reading-preserved-in-Some-inner_behind : goal.loop-reading-preserved-in-Some-inner_behind
loop-reading-preserved-in-Some-inner_behind c =
    let read = sym (rw (c.in-Whole.is, c.loop-reading.invariant.text) at c.in-Some.ensures.value) in
    let behind = sym (rw c.tag_bracket-bracket.ensures at c.in-Some-inner_behind.ensures.value) in
    let step = sym (tag_skip-goes_on _ _ c.loop-reading.leaves _ _ _ _ read behind) in
    record {
      text = c.next.ensures.text ∙ c.loop-reading.invariant.text;
      within = omega (
        arith,
        c.next.ensures.within,
        ap length c.next.ensures.text,
        ap length c.loop-reading.invariant.text,
      );
      fits = omega (arith, c.in-Some.ensures.place, c.in-Some.ensures.on, c.in-Some-inner_behind.ensures.few);
      few = omega (arith, c.in-Some.ensures.place, c.in-Some.ensures.on);
      same = rw (rw c.in-Whole.is at c.in-Some.ensures.place) (step ∙ c.loop-reading.invariant.same);
    }

pub loop-reading-preserved-then-matches : goal.loop-reading-preserved-then-matches
loop-reading-preserved-then-matches c =
    let read = sym (rw (c.in-Whole.is, c.loop-reading.invariant.text) at c.in-Some.ensures.value) in
    let ends = sym (rw c.tag_bracket-bracket.ensures at c.in-None.ensures.value) in
    let closes : c.tag_bracket-bracket.result ≡ Closes = elim c.match-matches.branch [
      | in-Closes w ↦ w.in-Closes.is
      | in_default-matches w ↦ absurd (cc (w.matches-is, c.if-matches.true))
    ] in
    let step =
    sym (tag_skip-leaves _ _ c.loop-reading.leaves _ _ _ read ends (sym c.tag_bracket-bracket.ensures ∙ closes)) in
    record {
      text = c.next.ensures.text ∙ c.loop-reading.invariant.text;
      within = omega (
        arith,
        c.next.ensures.within,
        ap length c.next.ensures.text,
        ap length c.loop-reading.invariant.text,
      );
      fits = omega (arith, c.in-Some.ensures.place, c.in-Some.ensures.on);
      few = omega (arith, c.in-Some.ensures.place, c.in-Some.ensures.on);
      same = rw (rw c.in-Whole.is at c.in-Some.ensures.place) (step ∙ c.loop-reading.invariant.same);
    }

pub returns-in-None-2-clause-value : goal.returns-in-None-2-clause-value
returns-in-None-2-clause-value c =
    let read = sym (rw (c.in-Whole.is, c.loop-reading.invariant.text) at c.in-Some.ensures.value) in
    let ends = sym (rw c.tag_bracket-bracket.ensures at c.in-None.ensures.value) in
    let stops : c.tag_bracket-bracket.result ≢ Closes = elim c.match-matches.branch [
      | in-Closes w ↦ absurd (cc (w.matches-is, c.if-matches.false))
      | in_default-matches w ↦ w.in_default-matches.not-Closes
    ] in
    let step =
    sym (tag_skip-ends _ _ c.loop-reading.leaves _ _ _ read ends (λ h. stops (c.tag_bracket-bracket.ensures ∙ h)))
    in
    step ∙ c.loop-reading.invariant.same

pub loop-reading-preserved : goal.loop-reading-preserved
loop-reading-preserved c =
    let read = sym (rw (c.in_default-reading.is, c.loop-reading.invariant.text) at c.in-Some.ensures.value) in
    let step = sym (tag_skip-faulty c.args.tag.now c.loop-reading.inner c.loop-reading.leaves _ _ _ _ _ read) in
    record {
      text = c.next.ensures.text ∙ c.loop-reading.invariant.text;
      within = omega (
        arith,
        c.next.ensures.within,
        ap length c.next.ensures.text,
        ap length c.loop-reading.invariant.text,
      );
      fits = omega (arith, c.in-Some.ensures.place, c.in-Some.ensures.on);
      few = omega (arith, c.in-Some.ensures.place, c.in-Some.ensures.on);
      same = rw (rw c.in_default-reading.is at c.in-Some.ensures.place) (step ∙ c.loop-reading.invariant.same);
    }

pub returns-clause-value : goal.returns-clause-value
returns-clause-value c =
    sym (tag_skip-none c.args.tag.now c.loop-reading.inner c.loop-reading.leaves c.args.text.now
    c.loop-reading.ahead.place (sym (rw c.loop-reading.invariant.text at c.in_default.ensures.value)))
    ∙ c.loop-reading.invariant.same
