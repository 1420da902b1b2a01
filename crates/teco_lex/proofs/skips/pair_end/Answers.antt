use Rattle.std.proofs.Common.{length, ap, sym, ◌∙◌, arith}
use Rattle.teco_model.proofs.SkipSteps.{pair_end-none, pair_end-faulty, pair_end-ends, pair_end-goes_on}
use Rattle.teco_model.proofs.Ahead.{reading_at-advances}
use Rattle.teco_lex.proofs.skips.pair_end.Goals as goal

pub loop-reading-preserved-in-Some-inner_behind : goal.loop-reading-preserved-in-Some-inner_behind
loop-reading-preserved-in-Some-inner_behind c =
    let read = sym (rw (c.in-Whole.is, c.loop-reading.invariant.text) at c.in-Some.ensures.value) in
    let behind = sym (rw c.bracket.ensures at c.in-Some-inner_behind.ensures.value) in
    let step = sym (pair_end-goes_on _ _ _ _ _ _ read behind) in
    record {
      text = c.next.ensures.text ∙ c.loop-reading.invariant.text;
      within = omega (
        arith,
        c.next.ensures.within,
        ap length c.next.ensures.text,
        ap length c.loop-reading.invariant.text,
      );
      fits = omega (arith, c.in-Some.ensures.place, c.in-Some.ensures.on, c.in-Some-inner_behind.ensures.few);
      same = rw (rw c.in-Whole.is at c.in-Some.ensures.place) (step ∙ c.loop-reading.invariant.same);
    }

pub returns-in-None-clause-value : goal.returns-in-None-clause-value
returns-in-None-clause-value c =
    let read = sym (rw (c.in-Whole.is, c.loop-reading.invariant.text) at c.in-Some.ensures.value) in
    let ends = sym (rw c.bracket.ensures at c.in-None.ensures.value) in
    sym (pair_end-ends _ _ _ _ _ read ends) ∙ c.loop-reading.invariant.same

pub returns-in-None-clause-within : goal.returns-in-None-clause-within
returns-in-None-clause-within c =
    let read = sym (rw (c.in-Whole.is, c.loop-reading.invariant.text) at c.in-Some.ensures.value) in
    let a = reading_at-advances c.args.text.now c.loop-reading.ahead.place _ read in
    (a.on, a.within)

pub loop-reading-preserved : goal.loop-reading-preserved
loop-reading-preserved c =
    let read = sym (rw (c.in_default-reading.is, c.loop-reading.invariant.text) at c.in-Some.ensures.value) in
    let step = sym (pair_end-faulty c.args.pairs c.loop-reading.inner _ _ _ _ _ read) in
    record {
      text = c.next.ensures.text ∙ c.loop-reading.invariant.text;
      within = omega (
        arith,
        c.next.ensures.within,
        ap length c.next.ensures.text,
        ap length c.loop-reading.invariant.text,
      );
      fits = omega (arith, c.in-Some.ensures.place, c.in-Some.ensures.on);
      same = rw (rw c.in_default-reading.is at c.in-Some.ensures.place) (step ∙ c.loop-reading.invariant.same);
    }

pub returns-clause-value : goal.returns-clause-value
returns-clause-value c = sym (pair_end-none c.args.pairs c.loop-reading.inner c.args.text.now c.loop-reading.ahead.place
    (sym (rw c.loop-reading.invariant.text at c.in_default.ensures.value))) ∙ c.loop-reading.invariant.same
