use Rattle.teco_expansion.proofs.Prelude.{length, ap, sym, ◌∙◌, arith, le-leb, lt-leb, crossed_seen}
use Rattle.teco_expansion.proofs.Crossing.{crossed-none, crossed-faulty, crossed-there, crossed-on, crossed-behind}
use Rattle.teco_expansion.proofs.overlap.crossed_between.Goals as goal

pub returns-then-from-text : goal.returns-then-from-text
returns-then-from-text c = sym (crossed-behind c.args.text.now c.args.from c.args.to c.if-from-text.true)

pub returns-then-to-element : goal.returns-then-to-element
returns-then-to-element c =
    let read = sym (rw (c.in-Whole.is, c.loop-reading.invariant.text) at c.in-Some.ensures.value) in
    sym (crossed-there c.args.to (crossed_seen c.loop-reading.way) c.args.text.now c.loop-reading.ahead.place _ read
    (le-leb c.args.to c.in-Whole.element.place c.if-to-element.true))
    ∙ c.loop-reading.invariant.same

pub loop-reading-preserved-in-Whole : goal.loop-reading-preserved-in-Whole
loop-reading-preserved-in-Whole c =
    let read = sym (rw (c.in-Whole.is, c.loop-reading.invariant.text) at c.in-Some.ensures.value) in
    let step = sym (crossed-on c.args.to (crossed_seen c.loop-reading.way) c.args.text.now c.loop-reading.ahead.place _
    read (lt-leb c.args.to c.in-Whole.element.place c.if-to-element.false)) in
    record {
      text = c.next.ensures.text ∙ c.loop-reading.invariant.text;
      within = omega (
        arith,
        c.next.ensures.within,
        ap length c.next.ensures.text,
        ap length c.loop-reading.invariant.text,
      );
      fits = omega (
        arith,
        c.loop-reading.invariant.fits,
        c.in-Some.ensures.place,
        c.in-Some.ensures.on,
        c.behind_bracket-way.ensures.few,
      );
      same = rw (rw c.in-Whole.is at c.in-Some.ensures.place)
          (rw (rw c.bracket.ensures at c.behind_bracket-way.ensures.value) (step ∙ c.loop-reading.invariant.same));
    }

pub loop-reading-preserved : goal.loop-reading-preserved
loop-reading-preserved c =
    let read = sym (rw (c.in_default-reading.is, c.loop-reading.invariant.text) at c.in-Some.ensures.value) in
    let step = sym (crossed-faulty c.args.to (crossed_seen c.loop-reading.way) _ _ _ _ _ read) in
    record {
      text = c.next.ensures.text ∙ c.loop-reading.invariant.text;
      within = omega (
        arith,
        c.next.ensures.within,
        ap length c.next.ensures.text,
        ap length c.loop-reading.invariant.text,
      );
      fits = omega (arith, c.loop-reading.invariant.fits, c.in-Some.ensures.place, c.in-Some.ensures.on);
      same = rw (rw c.in_default-reading.is at c.in-Some.ensures.place) (step ∙ c.loop-reading.invariant.same);
    }

pub returns : goal.returns
returns c = sym (crossed-none c.args.to (crossed_seen c.loop-reading.way) c.args.text.now c.loop-reading.ahead.place
    (sym (rw c.loop-reading.invariant.text at c.in_default.ensures.value))) ∙ c.loop-reading.invariant.same
