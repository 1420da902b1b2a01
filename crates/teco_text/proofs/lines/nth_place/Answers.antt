use Rattle.std.proofs.Common.{ℕ, ◌<◌, ◌+◌, ◌-◌, ◌∙◌, length, arith}
use Rattle.std.proofs.lemmas.List.Elements.{All-rest}
use Rattle.teco_base.specs.Lines.{line_places_from}
use Rattle.teco_text.proofs.LineEnds.{ends-here, ends-inside, falls-short, goes-past, places-behind}
use Rattle.teco_text.proofs.lines.nth_place.Goals as goal

pub loop-i-init : goal.loop-i-init
loop-i-init c =
    let all = c.into_iter-i-iterator.ensures.into_iter_gives ∙ c.memchr3_iter-i-items.ensures.value in
    record {
      some = c.requires.some;
      inside = rw all (ends-inside c.args.piece.now);
      on = λ r found. rw (all, places-behind c.args.at c.args.piece.now) at found;
    }

pub loop-i-preserved : goal.loop-i-preserved
loop-i-preserved c =
    let now = c.loop-i in
    let more : 0 < now.left - 1 = omega (arith, c.if-left-eq0.false) in
    record {
      some = more;
      inside = All-rest (λ (k : ℕ). k < length c.args.piece.now) c.in-Some.i c.next.new.self now.i-iterator
          c.in-Some.ensures.steps now.invariant.inside;
      on = goes-past (line_places_from c.args.at c.args.piece.now) c.args.count now.left (c.args.at + c.in-Some.i + 1) _
          (rw c.in-Some.ensures.steps at now.invariant.on) more;
    }

pub returns-then-left-eq0-clause-counted : goal.returns-then-left-eq0-clause-counted
returns-then-left-eq0-clause-counted c =
    ends-here (line_places_from c.args.at c.args.piece.now) c.args.count c.loop-i.left (c.args.at + c.in-Some.i + 1) _
    (rw c.in-Some.ensures.steps at c.loop-i.invariant.on) c.if-left-eq0.true

pub returns-clause-counted : goal.returns-clause-counted
returns-clause-counted c =
    falls-short (line_places_from c.args.at c.args.piece.now) c.args.count c.loop-i.left
    (rw c.in-None.ensures.steps.0 at c.loop-i.invariant.on) c.loop-i.invariant.some
