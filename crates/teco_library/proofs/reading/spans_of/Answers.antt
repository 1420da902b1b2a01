use Rattle.std.proofs.Common.{ap, length, sym, ◌∙◌, arith}
use Rattle.teco_lex.specs.Ahead.{seen}
use Rattle.teco_library.proofs.Ahead.{ends_its_text, nothing_read, read_on, stops_at, all_read}
use Rattle.teco_library.proofs.reading.spans_of.Goals as goal

pub loop-reading-init : goal.loop-reading-init
loop-reading-init c =
    let text = ap (λ r. r.text) c.from-ahead.ensures in
    let place = ap (λ r. r.place) c.from-ahead.ensures in
    record {
      text = text;
      within = omega (arith, place);
      read = rw place (nothing_read c.args.file.now);
    }

pub admit-requires : goal.admit-requires
admit-requires c =
    let read = sym (rw c.loop-reading.invariant.text at c.in-Some.ensures.value) in
    ends_its_text c.args.file.now c.loop-reading.ahead.place (seen c.in-Some.reading) read

pub returns-then-not-admit : goal.returns-then-not-admit
returns-then-not-admit c =
    let read = sym (rw c.loop-reading.invariant.text at c.in-Some.ensures.value) in
    let refused = rw c.if-not-admit.true at c.admit.ensures in
    rw c.place.ensures (stops_at c.args.file.now c.loop-reading.ahead.place
    (seen c.in-Some.reading) c.loop-reading.spans c.loop-reading.invariant.read read refused)

pub loop-reading-preserved : goal.loop-reading-preserved
loop-reading-preserved c =
    let read = sym (rw c.loop-reading.invariant.text at c.in-Some.ensures.value) in
    let admitted = rw c.if-not-admit.false at c.admit.ensures in
    record {
      text = c.next.ensures.text ∙ c.loop-reading.invariant.text;
      within = omega (
        arith,
        c.next.ensures.within,
        ap length c.next.ensures.text,
        ap length c.loop-reading.invariant.text,
      );
      read = rw c.in-Some.ensures.place
          (read_on c.args.file.now c.loop-reading.ahead.place (seen c.in-Some.reading) c.loop-reading.spans
          c.admit.new.spans c.requires c.loop-reading.invariant.read read admitted);
    }

pub returns : goal.returns
returns c =
    let none = sym (rw c.loop-reading.invariant.text at c.in_default.ensures.value) in
    all_read c.args.file.now c.loop-reading.ahead.place c.loop-reading.spans c.loop-reading.invariant.read none
